-- What holds of packing and of samples, proved: each field cites the law that says it.
-- Assumes nothing.
use Rattle.packing.specs.Laws.{PackingLaws}
use Rattle.packing.proofs.OneToOne.{packed_one_to_one}
use Rattle.packing.proofs.Packing.{unpack_pack, pack_unpack, packs, pack_meets_7}
use Rattle.packing.proofs.Samples.{sent_ten, sent_twelve, received_ten, received_twelve}

pub packing_laws : PackingLaws
packing_laws = record {
  unpack_pack = unpack_pack;
  pack_unpack = λ t p q r. pack_unpack t (record { first_below = p; second_below = q; third_below = r });
  packs = packs;
  pack_meets7 = pack_meets_7;
  sent_ten = sent_ten;
  sent_twelve = sent_twelve;
  received_ten = received_ten;
  received_twelve = received_twelve;
  packed_told = packed_one_to_one;
}
