use Rattle.std.proofs.Common.{◌∙◌, ap, drop}
use Rattle.disk_index.proofs.Ends.{drop-min}
use Rattle.disk_index.proofs.fields.from_place.Goals as goal

pub returns : goal.returns
returns c = c.split_at.ensures.back ∙ ap (λ n. drop n c.args.file.now) c.min.ensures ∙ drop-min c.args.place c.args.file.now
