-- The paper's values tell the answers apart.
-- Assumes nothing.
use mathlib.Core.Path.{◌≡◌, refl}
use mathlib.Core.Bool.{cond}
use lib.Dec.{eqb}
use Rattle.std.specs.Prelude.{Result, Ok, Err}
use Rattle.ground.specs.Answer.{Answer, refused, given}
use Rattle.ground.specs.Inside.Answer.{Injective}
use Rattle.ground.proofs.Answers.{told_again}
use Rattle.line.specs.declared.stream.StreamLine.{StreamLine}
use Rattle.word.specs.declared.line_number.LineWords.{LineWords}
use Rattle.word.specs.declared.line_number.NoLine.{NoLine}
use Rattle.word.specs.declared.line_number.NameError.{NameError}
use Rattle.word.specs.declared.line_number.NameError.TheVariants as Name
use Rattle.word.specs.declared.repair.Repaired.{Repaired}
use Rattle.word.specs.declared.repair.RepairError.{RepairError}
use Rattle.word.specs.declared.repair.RepairError.TheVariants as Repair
use Rattle.word.specs.LineNumber.{paper_numbered, paper_named}
use Rattle.word.specs.Repair.{paper_repair}

abbrev repair_again : Answer Repaired → Result Repaired RepairError
repair_again (refused n place) = Err (cond (eqb n 7) Repair.Above4095 Repair.BeyondRepair)
repair_again (given r) = Ok r

pub repair_one_to_one : Injective paper_repair
repair_one_to_one = told_again repair_again again
  where
    again : (r : Result Repaired RepairError) → repair_again (paper_repair r) ≡ r
    again (Ok r) = refl
    again (Err Repair.Above4095) = refl
    again (Err Repair.BeyondRepair) = refl

abbrev numbered_again : Answer LineWords → Result LineWords NoLine
numbered_again (refused n place) = Err (record {})
numbered_again (given w) = Ok w

pub numbered_one_to_one : Injective paper_numbered
numbered_one_to_one = told_again numbered_again again
  where
    again : (r : Result LineWords NoLine) → numbered_again (paper_numbered r) ≡ r
    again (Ok w) = refl
    again (Err e) = refl

abbrev named_again : Answer StreamLine → Result StreamLine NameError
named_again (refused n place) = Err (cond (eqb n 7) Name.Above4095 Name.Nameless)
named_again (given l) = Ok l

pub named_one_to_one : Injective paper_named
named_one_to_one = told_again named_again again
  where
    again : (r : Result StreamLine NameError) → named_again (paper_named r) ≡ r
    again (Ok l) = refl
    again (Err Name.Above4095) = refl
    again (Err Name.Nameless) = refl
