-- Names and parts that are read in place.
use Rattle.std.proofs.Common.{◌≡◌, Bool, List, [], ℕ, sym, subst}
use Rattle.rpki_der.specs.declared.error.DecodeError.{DecodeError}
use Rattle.rpki_der.specs.TagName.{TagName}
use Rattle.rpki_der.specs.Reading.{Accepts, Refuses, Refusal}
use Rattle.rpki_der.specs.Values.{SpellsContents, SpellsLeaf, IsContentsFault}
use Rattle.rpki_der.proofs.LeavesLaws.{leaf-value, contents-no-memory}
use Rattle.rpki_der.proofs.ComposedLaws.{all-read, spelled-whole, nothing-whole}
use Rattle.rpki_der.proofs.InsideLaws.{unless-memory}
use Rattle.rpki.specs.Name.{SpellsNameOctets}
use Rattle.rpki.specs.NameFault.{IsWalkedNameFault}
use Rattle.rpki.proofs.NameFaultLaws.{name-never}

-- ---- a value around parts

pub leaf-missing : {V : Type 0} (t : TagName) (f : Bool) (C : V → List ℕ → Type 0) (s r : List ℕ) (e : DecodeError)
    → Refusal (SpellsContents t f) (IsContentsFault t f) s r e → Refuses (SpellsLeaf t f C) s
leaf-missing t f C s r e h v q k =
    let none = unless-memory e (λ z. contents-no-memory t f s e h.kind z) h.refuses in
    let l = leaf-value t f C s v q k in
    none l.0 q l.1

-- ---- a name

pub name-refused : (s r : List ℕ) (e : DecodeError) → Refusal SpellsNameOctets IsWalkedNameFault s r e
    → Refuses SpellsNameOctets s
name-refused s r e h = unless-memory e (λ z. name-never s (subst (IsWalkedNameFault s) z h.kind)) h.refuses

-- ---- all of the octets

-- all of s is the value where nothing remains
pub whole-there : (G : Unit {0} → List ℕ → Type 0) (s r : List ℕ) → Accepts G s tt r → r ≡ [] → G tt s
whole-there G s r a end = (all-read G s tt r a end).0

pub whole-end : (G : Unit {0} → List ℕ → Type 0) (s r : List ℕ) → Accepts G s tt r → G tt s → r ≡ []
whole-end G s r a h = sym (a.only tt [] (spelled-whole G s tt h)).1

pub whole-none : (G : Unit {0} → List ℕ → Type 0) (s : List ℕ) → Refuses G s → G tt s → ⊥
whole-none G s none h = nothing-whole G s none tt h
