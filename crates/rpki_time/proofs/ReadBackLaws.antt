-- What a reader returns where the octets are known.
use Rattle.std.proofs.Common.{◌+◌, ◌<◌, [], ◌∷◌, ◌≡◌, ℕ, ◌≤◌, Bool, List, ◌++◌, length, drop, Result, Ok, Err, refl, ap}
use Rattle.std.proofs.Common.{subst, arith, length-append}
use Rattle.std.proofs.lemmas.List.{take_at, drop_at}
use Rattle.rpki_der.specs.declared.error.DecodeError.{DecodeError}
use Rattle.rpki_der.specs.declared.error.DecodeError.TheVariants.{OutOfMemory}
use Rattle.rpki_der.specs.declared.tag.Header.{Header}
use Rattle.rpki_der.specs.Prelude.{TagName, lead, tlv}
use Rattle.rpki_der.proofs.ReadingLaws.{unless-memory}
use Rattle.rpki_der.proofs.HeaderWritingLaws.{identifier-low, length-short}
use Rattle.rpki_der.specs.Prelude.{Spells, Accepts, Reads, SpellsHeader, SpellsContents, SpellsLeaf, SpellsWanted}
use Rattle.rpki_der.proofs.HeaderReadingLaws.{one-header}
use Rattle.rpki_der.proofs.ValuesLaws.{value-header, is-value}
use Rattle.rpki_der.proofs.WantedLaws.{is-flat}
use Rattle.rpki_der.proofs.LeavesLaws.{leaf-accepted}

abbrev header_of : TagName → Bool → ℕ → Header
header_of t f n = record { tag = t; constructed = f; length = n }

-- octets begin with one header
header-there : (s : List ℕ) (h : Header) (q : List ℕ) → Spells SpellsHeader s h q → Accepts SpellsHeader s h q
header-there s h q k = record { spells = k; only = λ g p j. one-header s g h p q j k }

-- octets begin with one value
pub contents-there : (t : TagName) (f : Bool) (s c r : List ℕ) → Spells (SpellsContents t f) s c r
    → Accepts (SpellsContents t f) s c r
contents-there t f s c r v =
    let a = header-there s (header_of t f (length c)) (c ++ r) (value-header t f s c r v) in
    let le : length c ≤ length (c ++ r) = omega (arith, length-append c r) in
    let k = is-value t f s (header_of t f (length c)) (c ++ r) a refl refl le in
    let P : List ℕ → Type 0 = λ x. Accepts (SpellsContents t f) s x (drop (length c) (c ++ r)) in
    subst (λ (x : List ℕ). Accepts (SpellsContents t f) s c x) (drop_at c r (length c) refl)
    (subst P (take_at c r (length c) refl) k)

-- the same for any tag and form that is wanted
pub flat-there : (W : TagName → Bool → Type 0) (t : TagName) (f : Bool) (s c r : List ℕ) → W t f
    → Spells (SpellsContents t f) s c r
    → (let x : TagName × Bool × List ℕ = (t, f, c) in Accepts (SpellsWanted W) s x r)
flat-there W t f s c r w v =
    let a = header-there s (header_of t f (length c)) (c ++ r) (value-header t f s c r v) in
    let le : length c ≤ length (c ++ r) = omega (arith, length-append c r) in
    let k = is-flat W s (header_of t f (length c)) (c ++ r) a w le in
    let P : List ℕ
    → Type 0 = λ y. let x : TagName × Bool × List ℕ = (t, f, y) in Accepts (SpellsWanted W) s x
    (drop (length c) (c ++ r)) in
    subst (λ (y : List ℕ). let x : TagName × Bool × List ℕ = (t, f, c) in Accepts (SpellsWanted W) s x y)
    (drop_at c r (length c) refl) (subst P (take_at c r (length c) refl) k)

-- the same of a value whose contents spell something, and nothing else
pub leaf-there : {V : Type 0} (t : TagName) (f : Bool) (C : V → List ℕ → Type 0) (s : List ℕ) (v : V) (r : List ℕ)
    (k : Spells (SpellsLeaf t f C) s v r)
    → ((w : V) → C w k.spelled.contents → w ≡ v) → Accepts (SpellsLeaf t f C) s v r
leaf-there t f C s v r k one =
    leaf-accepted t f C s k.spelled.contents r v
    (contents-there t f s k.spelled.contents r
    (record { front = k.front; parts = k.parts; spelled = k.spelled.value })) k.spelled.spelled one

-- a reader that allocates nothing reads what is there
pub reads-back : {V : Type 0} (G : V → List ℕ → Type 0) (K : List ℕ → DecodeError → Type 0) (s r : List ℕ)
    (x : Result V DecodeError) (v : V) (q : List ℕ)
    → (K s OutOfMemory → ⊥) → Reads (λ w. w) G K s r x → Accepts G s v q → (x ≡ Ok v) × (r ≡ q)
reads-back G K s r (Ok w) v q never h a = let e = a.only w r h.spells in (ap Ok e.0, e.1)
reads-back G K s r (Err e) v q never h a =
    absurd (unless-memory e (λ z. never (subst (K s) z h.kind)) h.refuses v q a.spells)

-- and what it read was there
pub was-read : {V : Type 0} (G : V → List ℕ → Type 0) (K : List ℕ → DecodeError → Type 0) (s r : List ℕ)
    (x : Result V DecodeError) (v : V)
    → Reads (λ w. w) G K s r x → x ≡ Ok v → Spells G s v r
was-read {V} G K s r x v h e =
    let P : Result V DecodeError → Type 0 = λ y. Reads (λ w. w) G K s r y in
    let a : Accepts G s v r = subst P e h in
    a.spells

-- ---- how long a value is

-- a tag below 31 and a length below 128 take one octet each
pub tlv-short : (t : TagName) (f : Bool) (c : List ℕ) → t.number < 31 → length c < 128
    → length (tlv t f c) ≡ 2 + length c
tlv-short t f c low short =
    let front = lead t f t.number ∷ [] in
    rw (identifier-low t f low, length-short (length c) short) (omega (arith, length-append (front ++ length c ∷ []) c))
