-- What holds of the rig, proved: each field cites the law that says it.
-- Assumes nothing.
use Rattle.rig.specs.Laws.{RigLaws}
use Rattle.rig.proofs.Carrying.{carries, carry_meets_2, carry_meets_4, carried_one_to_one}
use Rattle.rig.proofs.Lines.{length_sent, sent_on}
use Rattle.rig.proofs.Losing.{is_lost_where, is_kept_where}

pub rig_laws : RigLaws
rig_laws = record {
  is_lost_where = is_lost_where;
  is_kept_where = is_kept_where;
  carries = carries;
  carry_meets2 = carry_meets_2;
  carry_meets4 = carry_meets_4;
  length_sent = length_sent;
  sent_on = sent_on;
  carried_told = carried_one_to_one;
}
