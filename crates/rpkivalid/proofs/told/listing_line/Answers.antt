use Rattle.std.proofs.Common.{◌∙◌, sym}
use Rattle.std.proofs.lemmas.Result.{IfOk-weaker}
use Rattle.rpkivalid.proofs.ToldLaws.{wanted-file, wanted-manifest}
use Rattle.rpkivalid.proofs.told.listing_line.Goals as goal

pub returns-then-eq : goal.returns-then-eq
returns-then-eq c =
    let same = sym c.eq.ensures ∙ c.if-eq.true in
    IfOk-weaker c.listed_line.result _ _ (λ r h. h
    ∙ sym (wanted-file c.args.name.now c.args.uri.now c.args.rejection.now.uri c.args.rejection.now.reason
    _ c.in-MissingFile.is same)) c.listed_line.ensures

pub returns-then-is_at : goal.returns-then-is_at
returns-then-is_at c =
    let same = sym c.is_at.ensures ∙ c.if-is_at.true in
    IfOk-weaker c.manifest_line.result _ _ (λ r h. h
    ∙ sym (wanted-manifest c.args.name.now c.args.uri.now c.args.rejection.now.uri c.args.rejection.now.reason
    c.in-Missing.is same)) c.manifest_line.ensures
