use Rattle.std.proofs.Common.{◌≡◌, ℕ, List, false, inl, inr, refl}
use Rattle.rpki_der.specs.declared.error.DecodeError.{DecodeError}
use Rattle.rpki_der.specs.Prelude.{left, oid, SpellsLeaf, IsOnly, AtPart, Later}
use Rattle.rpki_der.proofs.ReadingLaws.{UnlessMemory-weaker}
use Rattle.rpki_der.proofs.FirstFaultLaws.{tried-parts}
use Rattle.rpki.specs.AlgorithmFault.{format_parts}
use Rattle.rpki_der.proofs.ComposedLaws.{all-read, nothing-whole, nothing-after}
use Rattle.rpki.specs.Oids.{rsa_encryption, ec_public_key, secp256r1}
use Rattle.rpki.specs.KeyFormat.{IsFormatName, IsFormatContents}
use Rattle.rpki.proofs.FormatLaws.{no-format, other-format, rsa-read, rsa-not-read, ec-read, ec-not-read}
use Rattle.rpki.proofs.PartLaws.{none-unknown, known-named}
use Rattle.rpki.proofs.crypto.keys.fn.PublicKeyFormat.take_from.in_sequence.Goals as goal

abbrev K : List ℕ → DecodeError → Type 0
K = format_parts.fault

unknown-format : (x : List ℕ) → (x ≡ rsa_encryption → ⊥) → (x ≡ ec_public_key → ⊥) → IsFormatName x → ⊥
unknown-format x f g (inl h) = f h
unknown-format x f g (inr h) = g h

pub returns-in_err-identifier : goal.returns-in_err-identifier
returns-in_err-identifier c =
    let s = left c.args.contents.now in
    let e = c.in_err-identifier.field-0.0 in
    let h = c.in_err-identifier.ensures in
    record {
      reads = tried-parts (λ f. f) IsFormatContents K s _ e _ c.from_residual.ensures
          (UnlessMemory-weaker e (no-format s) h.refuses, AtPart h.refuses h.kind);
      unknown = λ u. absurd (none-unknown IsFormatName s _ e h u);
    }

-- ---- RSA

pub returns-in_err-take_null_or_nothing : goal.returns-in_err-take_null_or_nothing
returns-in_err-take_null_or_nothing c =
    let s = left c.args.contents.now in
    let a = c.in_ok-identifier.ensures in
    let is = c.is_named.ensures.0 c.if-is_named.true in
    let h = c.in_err-take_null_or_nothing.ensures in
    record {
      reads = tried-parts (λ f. f) IsFormatContents K s _ c.in_err-take_null_or_nothing.field-0.0 _
          c.from_residual-in_err-take_null_or_nothing.ensures (
            UnlessMemory-weaker c.in_err-take_null_or_nothing.field-0.0 (rsa-not-read s _ _ a is) h.0,
            Later
                c.in_ok-identifier.identifier.0.now _ a (inl (is, h.1)),
          );
      unknown = λ u. absurd (known-named IsFormatName s _ _ a (inl is) u);
    }

pub returns-in_ok-take_null_or_nothing : goal.returns-in_ok-take_null_or_nothing
returns-in_ok-take_null_or_nothing c =
    let s = left c.args.contents.now in
    let a = c.in_ok-identifier.ensures in
    let is = c.is_named.ensures.0 c.if-is_named.true in
    let h = c.in_ok-take_null_or_nothing.ensures in
    record {
      reads = (
        λ end. rsa-read s _ _ _ a is (h.0 end),
        λ some. (
          rsa-not-read s _ _ a is (h.1 some).0,
          Later c.in_ok-identifier.identifier.0.now _ a
              (inl (is, (h.1 some).1)),
        ),
      );
      unknown = λ u. known-named IsFormatName s _ _ a (inl is) u;
    }

-- ---- ECDSA

pub returns-in_err-skip_oid_if : goal.returns-in_err-skip_oid_if
returns-in_err-skip_oid_if c =
    let s = left c.args.contents.now in
    let m = left c.take_oid.new.self in
    let e = c.in_err-skip_oid_if.field-0.0 in
    let a = c.in_ok-identifier.ensures in
    let is = c.is_named-else-is_named.ensures.0 c.if-is_named-2.true in
    let h = c.in_err-skip_oid_if.ensures in
    record {
      reads = tried-parts (λ f. f) IsFormatContents K s _ e _ c.from_residual-in_err-skip_oid_if.ensures (
        UnlessMemory-weaker e (λ none. ec-not-read s _ m a is
            (nothing-whole (SpellsLeaf oid false (IsOnly secp256r1)) m none)) h.refuses,
        Later c.in_ok-identifier.identifier.0.now m a (inr (inl (is, AtPart h.refuses h.kind))),
      );
      unknown = λ u. absurd (known-named IsFormatName s _ _ a (inr is) u);
    }

pub returns-in_ok-skip_oid_if : goal.returns-in_ok-skip_oid_if
returns-in_ok-skip_oid_if c =
    let s = left c.args.contents.now in
    let a = c.in_ok-identifier.ensures in
    let is = c.is_named-else-is_named.ensures.0 c.if-is_named-2.true in
    let h = c.in_ok-skip_oid_if.ensures in
    record {
      reads = (
        λ end. ec-read s _ _ a is (all-read (SpellsLeaf oid false (IsOnly secp256r1)) _ _ _ h end),
        λ some. (
          ec-not-read s _ _ a is (nothing-after (SpellsLeaf oid false (IsOnly secp256r1)) _ _ _ h some),
          Later c.in_ok-identifier.identifier.0.now _ a (inr (inl (is, Later tt _ h (some, refl)))),
        ),
      );
      unknown = λ u. known-named IsFormatName s _ _ a (inr is) u;
    }

-- ---- another identifier

pub returns-else-is_named-2 : goal.returns-else-is_named-2
returns-else-is_named-2 c =
    let other : c.in_ok-identifier.identifier.0.now ≡ rsa_encryption
    → ⊥ = λ e. let h = c.is_named.ensures.1 e in let k = c.if-is_named.false in cc in
    let neither : c.in_ok-identifier.identifier.0.now ≡ ec_public_key
    → ⊥ = λ e. let h = c.is_named-else-is_named.ensures.1 e in let k = c.if-is_named-2.false in cc in
    rw c.content.ensures (record {
      reads = (
        other-format (left c.args.contents.now) _ _ c.in_ok-identifier.ensures other neither,
        Later c.in_ok-identifier.identifier.0.now _ c.in_ok-identifier.ensures
            (inr (inr (unknown-format _ other neither, refl))),
      );
      unknown = λ u. refl;
    })
