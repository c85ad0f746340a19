use Rattle.std.proofs.Common.{◌∙◌, ap}
use Rattle.std.proofs.lemmas.Result.{IfOk-weaker}
use Rattle.rpki_text.specs.UriText.{lowercase}
use Rattle.rpkivalid.specs.Paths.{host_folder}
use Rattle.rpkivalid.proofs.PathLaws.{object-parts}
use Rattle.rpkivalid.proofs.paths.object_path.Goals as goal

pub returns : goal.returns
returns c =
    let lower = c.as_str.ensures.value ∙ c.make_ascii_lowercase.ensures.bytes
    ∙ ap lowercase (c.in_ok-authority.ensures.ok ∙ c.authority.ensures) in
    let host = c.host_folder.ensures ∙ ap host_folder lower in
    IfOk-weaker c.joined.result _ _
    (λ r h. h ∙ object-parts _ _ _ _ _ host c.module_name.ensures c.path.ensures) c.joined.ensures
