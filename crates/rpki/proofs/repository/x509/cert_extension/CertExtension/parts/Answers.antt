use Rattle.std.proofs.Common.{inl, inr, sym, subst, ◌∙◌}
use Rattle.rpki.specs.ExtensionValue.{ExtensionParts, SpellsExtension, CanBeWritten}
use Rattle.rpki.proofs.ExtensionLaws.{can-be-written}
use Rattle.rpki.proofs.ExtensionIndexLaws.{has-first, named, first-number, second-number, others-of, is-some, borrowed}
use Rattle.rpki.proofs.repository.x509.cert_extension.CertExtension.parts.Goals as goal

pub members-members-requires : goal.members-members-requires
members-members-requires c = has-first _ c.self.inside.captured c.self.invariant

pub unwrap-first-requires : goal.unwrap-first-requires
unwrap-first-requires c = is-some _ 1 (first-number _ c.self.inside.captured c.self.invariant _
    c.members-members.ensures.numbers _ _ c.next.ensures.steps)

pub unwrap-second-requires : goal.unwrap-second-requires
unwrap-second-requires c =
    is-some _ 2 (second-number _ c.self.inside.captured c.self.invariant _ c.members-members.ensures.numbers _ _
    c.next.ensures.steps _ _ c.next-2.ensures.steps)

pub returns-in-Some-clause-identifier : goal.returns-in-Some-clause-identifier
returns-in-Some-clause-identifier c =
    let h = subst (λ (x : ExtensionParts). SpellsExtension x c.self.inside.captured) c.self.view_is c.self.invariant in
    borrowed c.self.inside.captured c.unwrap-first.result 1 c.next.result _ _ c.unwrap-first.ensures
    (first-number _ c.self.inside.captured h _ c.members-members.ensures.numbers _ _ c.next.ensures.steps)
    (named _ c.self.inside.captured h) c.contents-identifier.ensures

pub returns-in-None-clause-identifier : goal.returns-in-None-clause-identifier
returns-in-None-clause-identifier c =
    let h = subst (λ (x : ExtensionParts). SpellsExtension x c.self.inside.captured) c.self.view_is c.self.invariant in
    borrowed c.self.inside.captured c.unwrap-first.result 1 c.next.result _ _ c.unwrap-first.ensures
    (first-number _ c.self.inside.captured h _ c.members-members.ensures.numbers _ _ c.next.ensures.steps)
    (named _ c.self.inside.captured h) c.contents-identifier.ensures

pub returns-in-Some-clause-critical : goal.returns-in-Some-clause-critical
returns-in-Some-clause-critical c =
    let octets = c.self.inside.captured in
    let h = subst (λ (x : ExtensionParts). SpellsExtension x octets) c.self.view_is c.self.invariant in
    let two =
    second-number _ octets h _ c.members-members.ensures.numbers _ _ c.next.ensures.steps _ _ c.next-2.ensures.steps in
    elim (others-of _ octets h _ c.members-members.ensures.numbers _ _ c.next.ensures.steps _ _ c.next-2.ensures.steps _
    _ c.next-3.ensures.steps) [
      | inl k ↦ let e = sym k.0 ∙ c.in-Some.is in absurd (cc)
      | inr k ↦ borrowed octets c.unwrap-second.result 2 c.next-2.result _ _ c.unwrap-second.ensures two k.1
          c.contents-next.ensures
    ]

pub returns-in-Some-clause-content : goal.returns-in-Some-clause-content
returns-in-Some-clause-content c =
    let octets = c.self.inside.captured in
    let h = subst (λ (x : ExtensionParts). SpellsExtension x octets) c.self.view_is c.self.invariant in
    elim (others-of _ octets h _ c.members-members.ensures.numbers _ _ c.next.ensures.steps _ _ c.next-2.ensures.steps _
    _ c.next-3.ensures.steps) [
      | inl k ↦ let e = sym k.0 ∙ c.in-Some.is in absurd (cc)
      | inr k ↦ borrowed octets c.in-Some.third 3 c.next-3.result _ _ c.in-Some.is k.0 k.2 c.contents.ensures
    ]

pub returns-in-None-clause-absent : goal.returns-in-None-clause-absent
returns-in-None-clause-absent c =
    let octets = c.self.inside.captured in
    let h = subst (λ (x : ExtensionParts). SpellsExtension x octets) c.self.view_is c.self.invariant in
    elim (others-of _ octets h _ c.members-members.ensures.numbers _ _ c.next.ensures.steps _ _ c.next-2.ensures.steps _
    _ c.next-3.ensures.steps) [
      | inl k ↦ k.1
      | inr k ↦ let e = sym k.0 ∙ c.in-None.is in absurd (cc)
    ]

pub returns-in-None-clause-content : goal.returns-in-None-clause-content
returns-in-None-clause-content c =
    let octets = c.self.inside.captured in
    let h = subst (λ (x : ExtensionParts). SpellsExtension x octets) c.self.view_is c.self.invariant in
    let two =
    second-number _ octets h _ c.members-members.ensures.numbers _ _ c.next.ensures.steps _ _ c.next-2.ensures.steps in
    elim (others-of _ octets h _ c.members-members.ensures.numbers _ _ c.next.ensures.steps _ _ c.next-2.ensures.steps _
    _ c.next-3.ensures.steps) [
      | inl k ↦ borrowed octets c.unwrap-second.result 2 c.next-2.result _ _ c.unwrap-second.ensures two k.2
          c.contents-next.ensures
      | inr k ↦ let e = sym k.0 ∙ c.in-None.is in absurd (cc)
    ]

pub returns-in-Some-clause-writable : goal.returns-in-Some-clause-writable
returns-in-Some-clause-writable c =
    subst CanBeWritten c.self.view_is (can-be-written _ c.self.inside.captured c.self.invariant)

pub returns-in-None-clause-writable : goal.returns-in-None-clause-writable
returns-in-None-clause-writable c =
    subst CanBeWritten c.self.view_is (can-be-written _ c.self.inside.captured c.self.invariant)
