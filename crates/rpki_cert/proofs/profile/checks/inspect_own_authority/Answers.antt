use Rattle.std.proofs.Common.{◌≡◌, ℕ, List, Option, Some, None, false, subst, inl, inr}
use Rattle.rpki_x509.specs.Authority.{SpellsAuthority}
use Rattle.rpki_cert.specs.declared.profile.rule.CertRule.TheVariants.{OwnAuthority}
use Rattle.std.proofs.lemmas.Bool.{iff_false}
use Rattle.rpki.specs.KeyIdentifier.{SpellsKeyIdentifier}
use Rattle.rpki_cert.specs.Known.{Says}
use Rattle.rpki_cert.proofs.ProfileLaws.{found-other, found-wrong}
use Rattle.rpki_cert.proofs.profile.checks.inspect_own_authority.Goals as goal
use Rattle.rpki_x509.specs.Authority.{WholeFault, authority_content}

pub returns-else-has_identifier : goal.returns-else-has_identifier
returns-else-has_identifier c = λ found subject h k.
    let some = rw c.in-Ok-Some.is at c.in-Ok-Some.field-0-is in
    let own = rw some at (rw c.in-Ok-Some.is at h) in
    let other = iff_false (c.has_identifier.ensures subject k) c.if-has_identifier.false in
    found-other false SpellsAuthority (WholeFault authority_content) OwnAuthority found _
    (Some c.in-Ok-Some.identifier) c.rejected.result own
    (λ k. elim k [
      | inl none ↦ (None, none, λ same. none-some c.in-Ok-Some.identifier same)
      | inr found ↦ (
        Some found.0,
        found.1,
        λ same. other
            (subst (λ (w : List ℕ). Says false SpellsKeyIdentifier subject (Some w))
            (one-some found.0 c.in-Ok-Some.identifier same) found.2),
      )
    ]) c.rejected.ensures
  where
    none-some : (w : List ℕ) → ◌≡◌ {A = Option (List ℕ)} None (Some w) → ⊥
    none-some w e = cc

    one-some : (v w : List ℕ) → ◌≡◌ {A = Option (List ℕ)} (Some v) (Some w) → v ≡ w
    one-some v w e = cc

pub returns-in-Err : goal.returns-in-Err
returns-in-Err c = λ found subject h k.
    found-wrong false SpellsAuthority (WholeFault authority_content) OwnAuthority found _ c.in-Err.e
    (rw c.in-Err.is at h) (λ p. elim p [ inl none ↦ (None, none) | inr own ↦ (Some own.0, own.1) ])
