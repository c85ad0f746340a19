use Rattle.std.proofs.Common.{◌∙◌, string_bytes}
use Rattle.clap.proofs.WalkLemmas.{list_any-map}
use Rattle.rpkivalid.specs.Complaint.{names}
use Rattle.rpkivalid.proofs.complaint.is_among.Goals as goal

pub returns : goal.returns
returns c = c.one_names.ensures ∙ list_any-map (names c.args.option.now) (λ word. string_bytes word) c.args.words.now
