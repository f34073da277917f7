-- What holds of the error detection code, proved: each field cites the law that says it.
-- Assumes nothing.
use Rattle.crcc.specs.Laws.{CrccLaws}
use Rattle.crcc.proofs.Crc.{crc_append, crc_below, register_again, crcc_good, crcc_meets_7}
use Rattle.crcc.proofs.OneToOne.{crcc_one_to_one}

pub crcc_laws : CrccLaws
crcc_laws = record {
  continues = crc_append;
  eighteen_bits = crc_below;
  register_again = register_again;
  crcc_good = crcc_good 0;
  crcc_meets7 = crcc_meets_7 0;
  crcc_told = crcc_one_to_one;
}
