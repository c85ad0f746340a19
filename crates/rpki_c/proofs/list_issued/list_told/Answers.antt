use Rattle.std.proofs.Common.{inl, inr, refl, ◌∙◌, sym}
use Rattle.std.proofs.lemmas.Bool.{iff_false}
use Rattle.rpki_c.proofs.VerificationLaws.{verified-signed}
use Rattle.rpki_c.proofs.list_issued.list_told.Goals as goal

pub returns-then-not-is_list_named : goal.returns-then-not-is_list_named
returns-then-not-is_list_named c = λ s t x y h k.
    inl (refl, iff_false (c.is_list_named.ensures s t x y h k) c.if-not-is_list_named.true)

pub returns-then-not-has_authority : goal.returns-then-not-has_authority
returns-then-not-has_authority c = λ s t x y h k.
    let named = (c.is_list_named.ensures s t x y h k).0 c.if-not-is_list_named.false in
    let other = iff_false (c.has_authority.ensures s x h) c.if-not-has_authority.true in
    inr (inl (refl, named, λ same. other (same ∙ sym (c.key_of.ensures t y k))))

pub returns-then-status-ne0 : goal.returns-then-status-ne0
returns-then-status-ne0 c = λ s t x y h k.
    let named = (c.is_list_named.ensures s t x y h k).0 c.if-not-is_list_named.false in
    let authority = (c.has_authority.ensures s x h).0 c.if-not-has_authority.false ∙ c.key_of.ensures t y k in
    inr (inr (inl (c.if-status-ne0.true, named, authority, c.list_verified-status.ensures s t x y h k)))

pub returns : goal.returns
returns c = λ s t x y h k.
    let status = c.list_verified-status.ensures s t x y h k in
    inr (inr (inr (
      record {
        name = (c.is_list_named.ensures s t x y h k).0 c.if-not-is_list_named.false;
        authority = (c.has_authority.ensures s x h).0 c.if-not-has_authority.false ∙ c.key_of.ensures t y k;
        signed = verified-signed _ _ _ (rw c.if-status-ne0.false at status);
      },
      c.in_force.ensures s x h,
    )))
