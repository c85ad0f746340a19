use Rattle.std.proofs.Common.{inl, inr, sym, subst, ◌∙◌}
use Rattle.rpki.specs.ExtensionValue.{ExtensionParts, SpellsExtension}
use Rattle.rpki.proofs.ExtensionIndexLaws.{has-first, second-number, others-of, is-some, borrowed}
use Rattle.rpki.proofs.repository.x509.cert_extension.CertExtension.cursor.Goals as goal

pub members-members-requires : goal.members-members-requires
members-members-requires c = has-first _ c.self.inside.captured c.self.invariant

pub unwrap-second-requires : goal.unwrap-second-requires
unwrap-second-requires c =
    is-some _ 2 (second-number _ c.self.inside.captured c.self.invariant _ c.members-members.ensures.numbers _ _
    c.next.ensures.steps _ _ c.next-2.ensures.steps)

pub returns-in-Some : goal.returns-in-Some
returns-in-Some c =
    let octets = c.self.inside.captured in
    let h = subst (λ (x : ExtensionParts). SpellsExtension x octets) c.self.view_is c.self.invariant in
    elim (others-of _ octets h _ c.members-members.ensures.numbers _ _ c.next.ensures.steps _ _ c.next-2.ensures.steps _
    _ c.next-3.ensures.steps) [
      | inl k ↦ let e = sym k.0 ∙ c.in-Some.is in absurd (cc)
      | inr k ↦ borrowed octets c.in-Some.third 3 c.next-3.result _ _ c.in-Some.is k.0 k.2 c.contents_cursor.ensures
    ]

pub returns-in-None : goal.returns-in-None
returns-in-None c =
    let octets = c.self.inside.captured in
    let h = subst (λ (x : ExtensionParts). SpellsExtension x octets) c.self.view_is c.self.invariant in
    let two =
    second-number _ octets h _ c.members-members.ensures.numbers _ _ c.next.ensures.steps _ _ c.next-2.ensures.steps in
    elim (others-of _ octets h _ c.members-members.ensures.numbers _ _ c.next.ensures.steps _ _ c.next-2.ensures.steps _
    _ c.next-3.ensures.steps) [
      | inl k ↦ borrowed octets c.unwrap-second.result 2 c.next-2.result _ _ c.unwrap-second.ensures two k.2
          c.contents_cursor-in-None.ensures
      | inr k ↦ let e = sym k.0 ∙ c.in-None.is in absurd (cc)
    ]
