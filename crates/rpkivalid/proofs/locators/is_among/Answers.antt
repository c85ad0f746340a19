use Rattle.std.proofs.Common.{◌∙◌, bytes_eq}
use Rattle.clap.proofs.WalkLemmas.{list_any-map}
use Rattle.rpkivalid.proofs.locators.is_among.Goals as goal

pub returns : goal.returns
returns c = c.one_is.ensures ∙ list_any-map (λ one. bytes_eq one c.args.file.now) (λ one. one.now) c.args.files.now
