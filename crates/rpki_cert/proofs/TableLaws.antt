-- The table of extensions, and what is known of it while they are read.
use Rattle.std.proofs.Common.{◌≡◌, ◌≢◌, ◌∙◌, inl, inr, ◌⊎◌, ◌+◌, ◌<◌, ◌≤◌, ℕ, Bool, true, false, List, [], ◌∷◌, length}
use Rattle.std.proofs.Common.{get_or, set, replicate, Option, Some, None, IsTrue, refl, sym, ap, subst, arith}
use Rattle.std.specs.Prelude.{bytes_eq, not, ◌||◌, ◌&&◌, if◌then◌else◌}
use Rattle.std.specs.Option.{is_some}
use Rattle.std.proofs.Math.Dec.{eqb}
use Rattle.std.proofs.lemmas.List.{length-set, get_or-set_same, get_or-set_other, get_or-replicate}
use Rattle.std.proofs.lemmas.Bool.{false≢true, false_from_ne_true, ne_eqb}
use Rattle.std.proofs.lemmas.Bool.Decides.{eqb_tells}
use Rattle.std.proofs.lemmas.Slice.Eq.{bytes_eq-Decides}
use denote.Bor.{Bor}
use Rattle.rpki_der.specs.TagName.{sequence}
use Rattle.rpki_der.specs.Reading.{Accepts, Refuses}
use Rattle.rpki_der.specs.Each.{SpellsSome}
use Rattle.rpki_der.proofs.LeafValueLaws.{leaf-shorter}
use Rattle.rpki.specs.ExtensionValue.{ExtensionParts, SpellsExtension, IsExtensionContents}
use Rattle.rpki_cert.specs.declared.extension.kind.ExtensionKind.{ExtensionKind}
use Rattle.rpki_cert.specs.declared.extension.table.Passed.{Passed}
use Rattle.rpki_cert.specs.Cert.{find, are_unique}
use Rattle.rpki_cert.specs.Known.{is_known, are_understood}
use Rattle.rpki_cert.specs.ExtensionTable.{OfListed, identifier_of, slot_of, ending, IsSlot, kept_as, IsTable}
use Rattle.rpki_cert.specs.View.{IsPassed}
use Rattle.rpki_cert.proofs.GatherLaws.{Gathers, gathers-all, gathers-on}
use Rattle.rpki_cert.proofs.ListedLaws.{Each, each-rest, each-none, each-end, find-other, first-once}

abbrev Contents : Type 0
Contents = Bor (List ℕ)

-- ---- kinds

-- by last octets
abbrev kind_with : ℕ → ExtensionKind
kind_with n =
    if eqb n 14 then ExtensionKind.SubjectKeyIdentifier else
    if eqb n 15 then ExtensionKind.KeyUsage else
    if eqb n 19 then ExtensionKind.BasicConstraints else
    if eqb n 31 then ExtensionKind.CrlDistributionPoints else
    if eqb n 32 then ExtensionKind.CertificatePolicies else
    if eqb n 35 then ExtensionKind.AuthorityKeyIdentifier else
    if eqb n 37 then ExtensionKind.ExtendedKeyUsage else
    if eqb n 1 then ExtensionKind.AuthorityInfoAccess else
    if eqb n 7 then ExtensionKind.IpResources else
    if eqb n 8 then ExtensionKind.AsResources else
    if eqb n 11 then ExtensionKind.SubjectInfoAccess else
    if eqb n 28 then ExtensionKind.IpResourcesV2 else
    ExtensionKind.AsResourcesV2

-- by slots
abbrev kind_in : ℕ → ExtensionKind
kind_in n = get_or (
    ExtensionKind.SubjectKeyIdentifier ∷ ExtensionKind.KeyUsage ∷ ExtensionKind.BasicConstraints
    ∷ ExtensionKind.CrlDistributionPoints ∷
    ExtensionKind.CertificatePolicies ∷ ExtensionKind.AuthorityKeyIdentifier ∷ ExtensionKind.ExtendedKeyUsage ∷
    ExtensionKind.AuthorityInfoAccess ∷ ExtensionKind.IpResources ∷ ExtensionKind.AsResources
    ∷ ExtensionKind.SubjectInfoAccess ∷
    ExtensionKind.IpResourcesV2 ∷ ExtensionKind.AsResourcesV2 ∷ []) n ExtensionKind.KeyUsage

-- it is found by its last octet and by its slot
record IsFound (k : ExtensionKind) : Type 0 where
  ended : kind_with (ending (identifier_of k)) ≡ k
  slotted : kind_in (slot_of k) ≡ k
  few : slot_of k < 13
  known : is_known (identifier_of k) ≡ true

found : (k : ExtensionKind) → IsFound k
found ExtensionKind.SubjectKeyIdentifier = record { ended = refl; slotted = refl; few = omega arith; known = refl }
found ExtensionKind.KeyUsage = record { ended = refl; slotted = refl; few = omega arith; known = refl }
found ExtensionKind.BasicConstraints = record { ended = refl; slotted = refl; few = omega arith; known = refl }
found ExtensionKind.CrlDistributionPoints = record { ended = refl; slotted = refl; few = omega arith; known = refl }
found ExtensionKind.CertificatePolicies = record { ended = refl; slotted = refl; few = omega arith; known = refl }
found ExtensionKind.AuthorityKeyIdentifier = record { ended = refl; slotted = refl; few = omega arith; known = refl }
found ExtensionKind.ExtendedKeyUsage = record { ended = refl; slotted = refl; few = omega arith; known = refl }
found ExtensionKind.AuthorityInfoAccess = record { ended = refl; slotted = refl; few = omega arith; known = refl }
found ExtensionKind.IpResources = record { ended = refl; slotted = refl; few = omega arith; known = refl }
found ExtensionKind.AsResources = record { ended = refl; slotted = refl; few = omega arith; known = refl }
found ExtensionKind.SubjectInfoAccess = record { ended = refl; slotted = refl; few = omega arith; known = refl }
found ExtensionKind.IpResourcesV2 = record { ended = refl; slotted = refl; few = omega arith; known = refl }
found ExtensionKind.AsResourcesV2 = record { ended = refl; slotted = refl; few = omega arith; known = refl }

-- identifiers of one last octet are of one kind
pub one-ending : (k j : ExtensionKind) → ending (identifier_of k) ≡ ending (identifier_of j) → k ≡ j
one-ending k j e = sym (found k).ended ∙ ap kind_with e ∙ (found j).ended

unknown : (id : List ℕ) → ((k : ExtensionKind) → id ≢ identifier_of k) → false ≡ is_known id
unknown id h =
    let no : (k : ExtensionKind) → bytes_eq id (identifier_of k) ≡ false = λ k.
    false_from_ne_true (bytes_eq id (identifier_of k)) (λ e. h k ((bytes_eq-Decides id (identifier_of k)).0 e)) in
    rw (
      no ExtensionKind.SubjectKeyIdentifier,
      no ExtensionKind.KeyUsage,
      no ExtensionKind.BasicConstraints,
      no ExtensionKind.CrlDistributionPoints,
      no ExtensionKind.CertificatePolicies,
      no ExtensionKind.AuthorityKeyIdentifier,
      no ExtensionKind.ExtendedKeyUsage,
      no ExtensionKind.AuthorityInfoAccess,
      no ExtensionKind.IpResources,
      no ExtensionKind.AsResources,
      no ExtensionKind.SubjectInfoAccess,
      no ExtensionKind.IpResourcesV2,
      no ExtensionKind.AsResourcesV2,
    ) refl

one-slot : (id : List ℕ) (n m : ℕ) → IsSlot id n → IsSlot id m → n ≡ m
one-slot id n m (inl (k, e, at)) (inl (j, f, there)) =
    at ∙ ap slot_of (one-ending k j (ap ending (sym e ∙ f))) ∙ sym there
one-slot id n m (inl (k, e, at)) (inr (none, there)) = absurd (none k e)
one-slot id n m (inr (none, at)) (inl (j, f, there)) = absurd (none j f)
one-slot id n m (inr (none, at)) (inr (h, there)) = at ∙ sym there

-- what is in the slot of a kind is of that kind
slot-kind : (id : List ℕ) (k : ExtensionKind) → IsSlot id (slot_of k) → id ≡ identifier_of k
slot-kind id k (inl (j, e, at)) = e ∙ ap identifier_of (sym (found j).slotted ∙ ap kind_in (sym at) ∙ (found k).slotted)
slot-kind id k (inr (none, at)) = absurd (omega (arith, at, (found k).few))

-- ---- a search

-- what is found of the identifier in s is found in r
pub record Seeks (id s r : List ℕ) : Type 0 where
  pub same : (xs : List ExtensionParts) → Each xs s → (ys : List ExtensionParts) × Each ys r
      × (find id xs ≡ find id ys)

find-first : (id : List ℕ) (x : ExtensionParts) (zs : List ExtensionParts) → bytes_eq x.identifier id ≡ true
    → find id (x ∷ zs) ≡ Some x
find-first id x zs e = rw e refl

-- the first has another identifier
seek-on : (id r q : List ℕ) (x : ExtensionParts) (ys : List ExtensionParts) → Each ys r → r ≢ []
    → Accepts SpellsExtension r x q → bytes_eq x.identifier id ≡ false
    → (zs : List ExtensionParts) × Each zs q × (find id ys ≡ find id zs)
seek-on id r q x ys h some a other =
    let (zs, is, rest) = each-rest r q x ys some a h in
    (zs, rest, ap (find id) is ∙ find-other id x zs other)

-- the first has this identifier
seek-first : (id r q : List ℕ) (x : ExtensionParts) (ys : List ExtensionParts) → Each ys r → r ≢ []
    → Accepts SpellsExtension r x q → bytes_eq x.identifier id ≡ true → find id ys ≡ Some x
seek-first id r q x ys h some a same =
    let (zs, is, rest) = each-rest r q x ys some a h in
    ap (find id) is ∙ find-first id x zs same

-- what is kept of an extension of the identifier is that extension
kept-is : (x : ExtensionParts) (id : List ℕ) (c : Bool) (w : Contents) → x.identifier ≡ id → c ≡ x.critical
    → w.now ≡ x.content → kept_as id c (Some w) ≡ Some x
kept-is x id c w e f g = rw (sym e, f, g) refl

-- what was found so far of the identifier is in its slot
abbrev Slot : List ℕ → List ℕ → List ℕ → Bool → Option Contents → Type 0
Slot id s r c o =
    ((o ≡ None) × Seeks id s r)
    ⊎ ((w : Contents) × (o ≡ Some w) × OfListed s (λ xs. kept_as id c (Some w) ≡ find id xs))

module _ (id s r q : List ℕ) (x : ExtensionParts) (some : r ≢ []) (a : Accepts SpellsExtension r x q) where
  slot-other : (c : Bool) (o : Option Contents) → bytes_eq x.identifier id ≡ false → Slot id s r c o → Slot id s q c o
  slot-other c o other (inr there) = inr there
  slot-other c o other (inl (none, h)) =
      inl (
        none,
        record {
          same = λ xs k.
              let (ys, each, e) = h.same xs k in
              let (zs, rest, f) = seek-on id r q x ys each some a other in
              (zs, rest, e ∙ f);
        },
      )

  slot-first : (c : Bool) (w : Contents) → x.identifier ≡ id → c ≡ x.critical → w.now ≡ x.content → Seeks id s r
      → Slot id s q c (Some w)
  slot-first c w named e f h =
      inr (
        w,
        refl,
        λ xs k.
            let (ys, each, g) = h.same xs k in
            let same = (bytes_eq-Decides x.identifier id).1 named in
            kept-is x id c w named e f ∙ sym (g ∙ seek-first id r q x ys each some a same),
      )

slot-end : (id s r : List ℕ) (c : Bool) (o : Option Contents) → r ≡ [] → Slot id s r c o
    → OfListed s (λ xs. kept_as id c o ≡ find id xs)
slot-end id s r c o end (inl (none, h)) = λ xs k.
    let (ys, each, e) = h.same xs k in
    ap (kept_as id c) none ∙ sym (e ∙ ap (find id) (each-end r ys end each))
slot-end id s r c o end (inr (w, there, kept)) = λ xs k. ap (kept_as id c) there ∙ kept xs k

-- ---- that no two have the same identifier

abbrev Slots : Type 0
Slots = List (Option Contents)

abbrev IsFree : Slots → ℕ → Type 0
IsFree slots n = get_or slots n None ≡ None

-- the extensions of s are unique where those of r are, and none of these has a slot that is taken
pub record Apart (s r : List ℕ) (slots : Slots) : Type 0 where
  pub same : (xs : List ExtensionParts) → Each xs s → (ys : List ExtensionParts) × Each ys r
      × (((id : List ℕ) (n : ℕ) → IsSlot id n → (IsFree slots n → ⊥) → find id ys ≡ None) → IsTrue (are_unique ys)
      → IsTrue (are_unique xs))

apart-on : (s r q : List ℕ) (x : ExtensionParts) (n : ℕ) (f : Contents) (slots : Slots) → r ≢ []
    → Accepts SpellsExtension r x q → IsSlot x.identifier n → n < length slots → IsFree slots n → Apart s r slots
    → Apart s q (set slots n (Some f))
apart-on s r q x n f slots some a here room free h = record {
  same = λ xs k.
      let (ys, each, g) = h.same xs k in
      let (zs, is, rest) = each-rest r q x ys some a each in (
        zs,
        rest,
        λ fresh once. step xs zs fresh once (subst (λ (w : List ExtensionParts).
            ((id : List ℕ) (n : ℕ) → IsSlot id n → (IsFree slots n → ⊥) → find id w ≡ None) → IsTrue (are_unique w)
            → IsTrue (are_unique xs)) is g),
      );
}
  where
    taken : Slots
    taken = set slots n (Some f)

    full : IsFree taken n → ⊥
    full e = some-none (sym (get_or-set_same slots n (Some f) None room) ∙ e) where
      some-none : ◌≡◌ {A = Option Contents} (Some f) None → ⊥
      some-none e = cc

    other : (id : List ℕ) (m : ℕ) → IsSlot id m → m ≢ n → bytes_eq x.identifier id ≡ false
    other id m slot differ = false_from_ne_true (bytes_eq x.identifier id) (λ e.
        differ (sym (one-slot x.identifier n m here (subst (λ (w : List ℕ). IsSlot w m)
        (sym ((bytes_eq-Decides x.identifier id).0 e)) slot))))

    step : (xs zs : List ExtensionParts)
        → ((id : List ℕ) (m : ℕ) → IsSlot id m → (IsFree taken m → ⊥) → find id zs ≡ None) → IsTrue (are_unique zs)
        → (((id : List ℕ) (m : ℕ) → IsSlot id m → (IsFree slots m → ⊥) → find id (x ∷ zs) ≡ None)
        → IsTrue (are_unique (x ∷ zs)) → IsTrue (are_unique xs)) → IsTrue (are_unique xs)
    step xs zs fresh once g = g before (first-once x zs (fresh x.identifier n here full) ∙ once) where
      before : (id : List ℕ) (m : ℕ) → IsSlot id m → (IsFree slots m → ⊥) → find id (x ∷ zs) ≡ None
      before id m slot seen =
          let differ : m ≢ n = λ e. seen (ap (λ (w : ℕ). get_or slots w None) e ∙ free) in
          let same = get_or-set_other slots n m (Some f) None differ in
          find-other id x zs (other id m slot differ) ∙ fresh id m slot (λ e. seen (sym same ∙ e))

pub free-slot : (o : Option Contents) → is_some o ≡ false → o ≡ None
free-slot None e = refl
free-slot (Some f) e = absurd (false≢true (sym e))

pub full-slot : (o : Option Contents) → is_some o ≡ true → o ≡ None → ⊥
full-slot o e none = false≢true (sym (ap (λ (w : Option Contents). is_some w) none) ∙ e)

-- ---- all of it

pub both-known : (u k v b : Bool) → b ≡ k → u ≡ true → v ≡ b → v ≡ (u && k)
both-known u k v b e t is = is ∙ e ∙ sym (ap (λ (w : Bool). w && k) t)

pub one-unknown : (u k v : Bool) → u ≡ false → v ≡ false → v ≡ (u && k)
one-unknown u k v f is = is ∙ sym (ap (λ (w : Bool). w && k) f)

-- the last slot has none that is known
pub slot-known : (id : List ℕ) (n : ℕ) → IsSlot id n → not (eqb n 13) ≡ is_known id
slot-known id n (inl (k, named, is)) =
    let other = ne_eqb (slot_of k) 13 (λ (e : slot_of k ≡ 13). omega (arith, (found k).few, e)) in
    ap (λ (m : ℕ). not (eqb m 13)) is ∙ ap not other ∙ sym (ap is_known named ∙ (found k).known)
slot-known id n (inr (none, is)) = ap (λ (m : ℕ). not (eqb m 13)) is ∙ unknown id none

pub record Passing (s r : List ℕ) (slots : Slots) (critical : List Bool) (understood : Bool) (count : ℕ)
    (apart : Bool) : Type 0 where
  pub size : length slots ≡ 14
  pub marks : length critical ≡ 14
  pub room : count + length r ≤ length s
  pub counted : Gathers SpellsExtension (λ xs. length xs) (λ n. count + n) s r
  pub known : Gathers SpellsExtension are_understood (λ b. understood && b) s r
  pub found : (k : ExtensionKind) → Slot (identifier_of k) s r (get_or critical (slot_of k) false)
      (get_or slots (slot_of k) None)
  pub distinct : IsTrue apart → Apart s r slots

pub passing-all : (s : List ℕ) (slots : Slots) (critical : List Bool) → slots ≡ replicate 14 None
    → length critical ≡ 14 → Passing s s slots critical true 0 true
passing-all s slots critical e marks = record {
  size = ap length e;
  marks = marks;
  room = omega arith;
  counted = gathers-all SpellsExtension (λ xs. length xs) s (λ n. 0 + n) (λ n. omega arith);
  known = gathers-all SpellsExtension are_understood s (λ b. true && b) (λ b. refl);
  found = λ k. inl (free (slot_of k) (found k).few, record { same = λ xs h. (xs, h, refl) });
  distinct = λ _. record { same = λ xs h. (xs, h, λ fresh once. once) };
}
  where
    free : (n : ℕ) → n < 13 → IsFree slots n
    free n few = ap (λ (w : Slots). get_or w n None) e ∙ get_or-replicate 14 n None None (omega (arith, few))

module _ (s r q : List ℕ) (x : ExtensionParts) (slots : Slots) (m : List Bool) (u : Bool) (c : ℕ) (d : Bool)
    (some : r ≢ []) (a : Accepts SpellsExtension r x q) (h : Passing s r slots m u c d) (v : Bool) (n : ℕ)
    (is : v ≡ (u && (not x.critical || is_known x.identifier))) (here : IsSlot x.identifier n) where
  counted-on : Gathers SpellsExtension (λ xs. length xs) (λ n. (c + 1) + n) s q
  counted-on = gathers-on SpellsExtension (λ xs. length xs) s (λ n. c + n) (λ n. (c + 1) + n) r q x (λ zs. omega arith)
      some h.counted a

  known-on : Gathers SpellsExtension are_understood (λ b. v && b) s q
  known-on = gathers-on SpellsExtension are_understood s (λ b. u && b) (λ b. v && b) r q x
      (λ zs. both u (not x.critical || is_known x.identifier) (are_understood zs) v is) some h.known a where
        both : (u k b v : Bool) → v ≡ (u && k) → (u && (k && b)) ≡ (v && b)
        both true k b v e = rw e refl
        both false k b v e = rw e refl

  room-on : (c + 1) + length q ≤ length s
  room-on = omega (arith, h.room, leaf-shorter sequence true IsExtensionContents r x q a.spells)

  -- its slot is free
  pub passing-first : (f : Contents) (b : Bool) → n < 14 → IsFree slots n → f.now ≡ x.content → b ≡ x.critical
      → Passing s q (set slots n (Some f)) (set m n b) v (c + 1) d
  passing-first f b few free content mark = record {
    size = length-set slots n (Some f) ∙ h.size;
    marks = length-set m n b ∙ h.marks;
    room = room-on;
    counted = counted-on;
    known = known-on;
    found = λ k. go k (eqb_tells n (slot_of k));
    distinct = λ z. apart-on s r q x n f slots some a here room free (h.distinct z);
  }
    where
      room : n < length slots
      room = omega (arith, few, h.size)

      marks : n < length m
      marks = omega (arith, few, h.marks)

      put : List (Option Contents)
      put = set slots n (Some f)

      marked : List Bool
      marked = set m n b

      seeks : (k : ExtensionKind) → IsFree slots (slot_of k)
          → Slot (identifier_of k) s r (get_or m (slot_of k) false) (get_or slots (slot_of k) None)
          → Seeks (identifier_of k) s r
      seeks k none (inl (e, there)) = there
      seeks k none (inr (w, there, kept)) = absurd (some-none w (sym there ∙ none)) where
        some-none : (w : Contents) → ◌≡◌ {A = Option Contents} (Some w) None → ⊥
        some-none w e = cc

      go : (k : ExtensionKind) → ((eqb n (slot_of k) ≡ true) × (n ≡ slot_of k))
          ⊎ ((eqb n (slot_of k) ≡ false) × (n ≢ slot_of k))
          → Slot (identifier_of k) s q (get_or marked (slot_of k) false) (get_or put (slot_of k) None)
      go k (inl (z, e)) =
          let id = identifier_of k in
          let named : x.identifier ≡ id = slot-kind x.identifier k (subst (IsSlot x.identifier) e here) in
          let there : get_or put (slot_of k) None ≡ Some f =
          ap (λ (w : ℕ). get_or put w None) (sym e) ∙ get_or-set_same slots n (Some f) None room in
          let also : get_or marked (slot_of k) false ≡ x.critical =
          ap (λ (w : ℕ). get_or marked w false) (sym e) ∙ get_or-set_same m n b false marks ∙ mark in
          let none : IsFree slots (slot_of k) = ap (λ (w : ℕ). get_or slots w None) (sym e) ∙ free in
          subst (Slot id s q (get_or marked (slot_of k) false)) (sym there)
          (slot-first id s r q x some a _ f named also content (seeks k none (h.found k)))
      go k (inr (z, differ)) =
          let id = identifier_of k in
          let there = get_or-set_other slots n (slot_of k) (Some f) None (λ e. differ (sym e)) in
          let also = get_or-set_other m n (slot_of k) b false (λ e. differ (sym e)) in
          let other : bytes_eq x.identifier id ≡ false =
          false_from_ne_true (bytes_eq x.identifier id)
          (λ e. differ (one-slot x.identifier n (slot_of k) here
          (inl (k, (bytes_eq-Decides x.identifier id).0 e, refl)))) in
          rw (there, also) (slot-other id s r q x some a _ _ other (h.found k))

  -- its slot is taken
  pub passing-again : (IsFree slots n → ⊥) → Passing s q slots m v (c + 1) false
  passing-again full = record {
    size = h.size;
    marks = h.marks;
    room = room-on;
    counted = counted-on;
    known = known-on;
    found = λ k. go k (eqb_tells n (slot_of k)) (h.found k);
    distinct = λ z. absurd (false≢true z);
  }
    where
      go : (k : ExtensionKind) → ((eqb n (slot_of k) ≡ true) × (n ≡ slot_of k))
          ⊎ ((eqb n (slot_of k) ≡ false) × (n ≢ slot_of k))
          → Slot (identifier_of k) s r (get_or m (slot_of k) false) (get_or slots (slot_of k) None)
          → Slot (identifier_of k) s q (get_or m (slot_of k) false) (get_or slots (slot_of k) None)
      go k _ (inr there) = inr there
      go k (inl (b, e)) (inl (none, seeks)) = absurd (full (ap (λ (w : ℕ). get_or slots w None) e ∙ none))
      go k (inr (b, differ)) (inl there) =
          let id = identifier_of k in
          let other : bytes_eq x.identifier id ≡ false =
          false_from_ne_true (bytes_eq x.identifier id)
          (λ e. differ (one-slot x.identifier n (slot_of k) here
          (inl (k, (bytes_eq-Decides x.identifier id).0 e, refl)))) in
          slot-other id s r q x some a _ _ other (inl there)

-- no extension begins the rest
pub passing-none : (s r : List ℕ) (slots : Slots) (m : List Bool) (u : Bool) (c : ℕ) (d : Bool) → r ≢ []
    → Passing s r slots m u c d
    → Refuses SpellsExtension r → (xs : List ExtensionParts) → SpellsSome SpellsExtension xs s → ⊥
passing-none s r slots m u c d some h none xs k =
    let (ys, each, e) = h.counted.back xs k.each in
    each-none r ys some none each

module _ (s r : List ℕ) (slots : Slots) (m : List Bool) (u : Bool) (c : ℕ) (d : Bool) (end : r ≡ [])
    (h : Passing s r slots m u c d) where
  pub passing-table : IsTable s slots m u
  passing-table = record {
    found = λ k. slot-end (identifier_of k) s r _ _ end (h.found k);
    known = λ xs k.
        let (ys, each, e) = h.known.back xs k in
        sym (e ∙ ap (λ (zs : List ExtensionParts). u && are_understood zs) (each-end r ys end each) ∙ last u);
  }
    where
      last : (b : Bool) → (b && true) ≡ b
      last true = refl
      last false = refl

  pub passing-end : (p : Passed) → s ≢ [] → p.table ≡ s → p.count ≡ c → p.apart ≡ d → IsPassed s p
  passing-end p some table count apart = record {
    table = table;
    count =
        let (xs, each, e) = h.counted.whole [] end in
        record {
          extensions = xs;
          some = record { some = λ z. some (subst (λ (ys : List ExtensionParts). Each ys s) z each); each = each };
          count = omega (arith, e, count);
        };
    apart = λ z xs k.
        let (ys, each, g) = (h.distinct (sym apart ∙ z)).same xs k in
        let e = each-end r ys end each in
        g (λ id n slot full. ap (find id) e) (ap are_unique e);
  }
