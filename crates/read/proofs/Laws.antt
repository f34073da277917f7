-- Laws of the calls that read, proved: each field cites the law that says it.
-- Assumes nothing.
use Rattle.read.specs.Laws.{ReadLaws}
use Rattle.read.proofs.OneToOne.{read_one_to_one}

pub read_laws : ReadLaws
read_laws = record { read_told = read_one_to_one }
