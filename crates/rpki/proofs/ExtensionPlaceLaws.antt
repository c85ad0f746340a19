-- Where the parts of an extension are.
use Rattle.std.proofs.Common.{◌≡◌, ℕ, ◌-◌, ◌+◌, true, false, List, [], ◌++◌, length, take, drop, refl, sym}
use Rattle.std.proofs.Common.{ap, subst, ◌∙◌, arith, append_assoc, append-nil, length-append}
use Rattle.std.proofs.lemmas.List.{drop_at, take_all, length-drop}
use Rattle.rpki_der.specs.Prelude.{oid, octet_string, sequence, Spells, SpellsContents}
use Rattle.rpki_der.specs.Standing.{StandsBefore}
use Rattle.rpki_der.proofs.KeepLaws.{contents-stand, inner-stands}
use Rattle.rpki.specs.ExtensionValue.{ExtensionParts, SpellsExtension}
use Rattle.rpki.specs.ExtensionPlace.{IsBehindIdentifier}

pub identifier-stands : {s r i m : List ℕ} → IsBehindIdentifier s r i m → StandsBefore s i m
identifier-stands {s} {r} {i} {m} h =
    subst (λ (x : List ℕ). StandsBefore s i x) (sym h.behind)
    (inner-stands (contents-stand sequence true s h.contents r [] h.contents h.extension refl)
    (contents-stand oid false h.contents i h.others [] i h.first refl))

pub content-stands : {s r : List ℕ} {x : ExtensionParts} → Spells SpellsExtension s x r → StandsBefore s x.content r
content-stands {s} {r} {x} h =
    let c = h.spelled.contents in
    let parts = h.spelled.spelled in
    let whole : Spells (SpellsContents sequence true) s c r = record
    { front = h.front; parts = h.parts; spelled = h.spelled.value } in
    let last : Spells (SpellsContents octet_string false) parts.third x.content [] = record
    { front = parts.third; parts = sym (append-nil parts.third); spelled = parts.content } in
    inner-stands (contents-stand sequence true s c r (parts.first ++ parts.second) parts.third whole
    (parts.parts ∙ sym (append_assoc parts.first parts.second parts.third)))
    (contents-stand octet_string false parts.third x.content [] [] x.content last refl)

-- what follows the identifier, by how many octets that is
module _ (s c r i m : List ℕ) (a : Spells (SpellsContents sequence true) s c r)
    (h : Spells (SpellsContents oid false) c i m) where
  others-stand : StandsBefore s m r
  others-stand = contents-stand sequence true s c r h.front m a h.parts

  pub behind-identifier : (n : ℕ) → n ≡ length s - (length m + length r)
      → IsBehindIdentifier s r i (take (length s - n) (drop n s))
  behind-identifier n is =
      let k = others-stand in
      let place : length k.before ≡ n = omega
      (arith, is, ap length k.parts, length-append k.before (m ++ r), length-append m r) in
      record {
        contents = c;
        others = m;
        extension = a;
        first = h;
        behind = take_all (length s - n) (drop n s) (omega (arith, length-drop n s)) ∙ ap (drop n) k.parts
            ∙ drop_at k.before (m ++ r) n place;
      }
