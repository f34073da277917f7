-- `generate::start::put_start` meets its contract: the answer says whether there is a start, and what is left.
-- Assumes nothing.
use mathlib.Core.Path.{sym, ap, ◌∙◌}
use Rattle.generate.specs.Inside.Parameters.{paper_wanted}
use Rattle.generate.proofs.Starts.{header}
use Rattle.generate.proofs.start.put_start.Goals as goal

pub returns : goal.returns
returns c = let good = sym c.wanted_in.ensures ∙ ap paper_wanted c.in-Ok.is in
    let told = header c.args.input.now c.args.out.now good c.requires c.put_text-end.ensures.end c.put_text-end.ensures.written c.all_of-left.ensures in record { counts = told.0; ready = told.1.0; end = told.1.1.0; left = told.1.1.1.0; written = told.1.1.1.1 }
