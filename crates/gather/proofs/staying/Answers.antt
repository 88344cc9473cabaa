-- `gather::staying` meets its contract.
use Rattle.words.specs.Words.{◌∙◌, ap, min}
use Rattle.gather.proofs.Collecting.{staying}
use Rattle.gather.proofs.staying.Goals as goal

pub returns : goal.returns
returns c =
    let d = c.distance-d in
    staying d.result _ d.ensures.0 d.ensures.1 (c.min.ensures ∙ ap (min c.args.count) c.saturating_sub.ensures)
