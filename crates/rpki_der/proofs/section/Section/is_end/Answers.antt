use Rattle.std.proofs.Common.{rules, IsTrue, ◌≡◌, ◌↔◌, ◌∙◌, sym}
use Rattle.rpki_der.proofs.EndLaws.{end-there, end-only}
use Rattle.rpki_der.proofs.section.Section.is_end.Goals as goal

pub returns-then-rest-octets : goal.returns-then-rest-octets
returns-then-rest-octets c =
    let same : IsTrue c.eq.result ↔ (c.split_at.result.1.now ≡ c.args.rest.now) = search rules in (
      λ yes. end-there c.args.octets.now c.args.rest.now _ (sym c.split_at.ensures.back ∙ same.0 yes),
      λ k. same.1 (c.split_at.ensures.back ∙ end-only c.args.octets.now c.args.rest.now k),
    )
