use Rattle.std.proofs.Common.{◌≡◌, ◌∙◌, ◌++◌, codes, decimal, string_bytes, append_assoc, sym}
use Rattle.std.proofs.lemmas.Result.{IfOk-weaker}
use Rattle.rpkicert.specs.Output.{numbered}
use Rattle.rpkicert.proofs.files.numbered.Goals as goal

pub returns : goal.returns
returns c =
    let name = c.args.name.now in
    let number = decimal c.args.number in
    let same : name ++ (codes " (" ++ (number ++ codes ")")) ≡ numbered name c.args.number =
    sym (append_assoc (name ++ codes " (") number (codes ")")
    ∙ append_assoc name (codes " (") (number ++ codes ")")) in
    IfOk-weaker c.format.result (λ s. string_bytes s ≡ name ++ (codes " (" ++ (number ++ codes ")"))) _
    (λ r h. h ∙ same) c.format.ensures.ok
