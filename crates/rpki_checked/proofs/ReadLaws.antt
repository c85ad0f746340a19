-- What was made is read again, from a copy of its octets.
use Rattle.std.proofs.Common.{◌≡◌, ℕ, List, sym, subst}
use Rattle.rpki_der.specs.declared.error.DecodeError.{DecodeError}
use Rattle.rpki_der.specs.declared.error.DecodeError.TheVariants.{OutOfMemory}
use Rattle.rpki_der.specs.Prelude.{UnlessMemory, SpellsNothing}
use Rattle.rpki.specs.declared.repository.error.ValidationError.{ValidationError}
use Rattle.rpki.specs.declared.repository.error.ValidationError.TheVariants.{Decoding}
use Rattle.rpki_checked.specs.Checked.{AreOnly, IsUnread}

pub no-memory : {V : Type 0} (spells : V → List ℕ → Type 0) (fault : List ℕ → DecodeError → Type 0) (whole : List ℕ)
    (e : ValidationError) → e ≡ Decoding OutOfMemory → IsUnread spells fault whole e
no-memory spells fault whole e is =
    subst (λ (w : ValidationError). IsUnread spells fault whole w) (sym is) IsUnread.NoMemory

-- what a reader says of octets that are these
pub read : {V : Type 0} (spells : V → List ℕ → Type 0) (s whole : List ℕ) (x : V) → s ≡ whole
    → spells x s × ((w : V) → spells w s → w ≡ x) → AreOnly spells whole x
read spells s whole x same h =
    let there : AreOnly spells s x = record { spelled = h.0; only = h.1 } in
    subst (λ (o : List ℕ). AreOnly spells o x) same there

pub unread : {V : Type 0} (spells : V → List ℕ → Type 0) (fault : List ℕ → DecodeError → Type 0) (s whole : List ℕ)
    (d : DecodeError) → s ≡ whole → UnlessMemory d (SpellsNothing spells s) × fault s d
    → IsUnread spells fault whole (Decoding d)
unread spells fault s whole d same h =
    let there : IsUnread spells fault s (Decoding d) = IsUnread.NotRead d h in
    subst (λ (o : List ℕ). IsUnread spells fault o (Decoding d)) same there
