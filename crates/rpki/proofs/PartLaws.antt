-- What the readers of parts return, in the words of a reader of all of something.
use Rattle.std.proofs.Common.{ℕ, Bool, true, false, List, Result, sym, subst}
use Rattle.rpki_der.specs.declared.error.DecodeError.{DecodeError}
use Rattle.rpki_der.specs.Prelude.{TagName, oid, sequence, Accepts, Refuses, Refusal, SpellsLeaf, IsLeafFault, IsOidOf}
use Rattle.rpki_der.specs.Prelude.{left, ReadsInside, Takes, this_oid}
use Rattle.rpki_der.specs.declared.cursor.Constructed.{Constructed}
use Rattle.rpki_der.proofs.InsideLaws.{Same, unless-memory, refused-inside}
use Rattle.rpki_der.proofs.LeavesLaws.{leaf-no-memory}
use Rattle.rpki_der.proofs.FormatLaws.{takes-around-one}
use Rattle.rpki.specs.AlgorithmFault.{bare}
use Rattle.rpki.specs.UnknownAlgorithm.{BeginsUnknown, NamesUnknown, IsRefusedWith}

-- contents that say less
pub dropped-none : {V W : Type 0} (t : TagName) (f : Bool) (C : V → List ℕ → Type 0) (D : W → List ℕ → Type 0)
    (s : List ℕ)
    → ((w : W) (c : List ℕ) → D w c → (v : V) × C v c) → Refuses (SpellsLeaf t f C) s → Refuses (SpellsLeaf t f D) s
dropped-none t f C D s back none w r h =
    let k = h.spelled in
    let b = back w k.contents k.spelled in
    none b.0 r
    (record {
      front = h.front;
      parts = h.parts;
      spelled = record
          { contents = k.contents; value = k.value; spelled = b.1 };
    })

-- ---- identifiers that aren't known

-- no identifier begins the contents
pub none-unknown : (Known : List ℕ → Type 0) (c q : List ℕ) (e : DecodeError)
    → Refusal (SpellsLeaf oid false IsOidOf) (IsLeafFault oid false IsOidOf) c q e → BeginsUnknown Known c → ⊥
none-unknown Known c q e h u =
    unless-memory e (leaf-no-memory oid false IsOidOf c e h.kind) h.refuses u.identifier u.rest u.begins

-- a known one does
pub known-named : (Known : List ℕ → Type 0) (c x m : List ℕ) → Accepts (SpellsLeaf oid false IsOidOf) c x m → Known x
    → BeginsUnknown Known c → ⊥
known-named Known c x m a known u = u.unknown (subst Known (sym (a.only u.identifier u.rest u.begins).0) known)

-- what the reader of the contents says of them, where the identifier isn't known
module _ {X : Type 0} (Known : List ℕ → Type 0) (text : List ℕ)
    (reads : Constructed → Result X DecodeError → Constructed → Type 0)
    (law : (b a : Constructed) (x : Result X DecodeError) → reads b x a → BeginsUnknown Known (left b) → IsRefusedWith
    text x) where
  pub unknown-inside : (s q : List ℕ) (x : Result X DecodeError) → ReadsInside sequence true Same reads s q x
      → NamesUnknown Known s → IsRefusedWith text x
  unknown-inside s q x h u = refused-inside sequence true (BeginsUnknown Known) (IsRefusedWith text) (λ y k. k) reads
      law s q u.contents u.rest x h u.begins u.names

-- ---- an identifier alone

pub only-named : (o : List ℕ) (reads : Constructed → Result (Unit {0}) DecodeError → Constructed → Type 0)
    → ((b a : Constructed) (x : Result (Unit {0}) DecodeError) → reads b x a
    → Takes (λ u. u) (this_oid o) (left b) (left a) x)
    → (s r : List ℕ) (x : Result (Unit {0}) DecodeError) → ReadsInside sequence true Same reads s r x
    → Takes (λ u. u) (bare o) s r x
only-named o = takes-around-one (λ u. u) sequence (this_oid o)
