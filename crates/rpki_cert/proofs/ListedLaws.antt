-- Extensions that are read in place, in sequence.
use Rattle.std.proofs.Common.{◌≡◌, ◌≢◌, ◌∙◌, ◌<◌, ℕ, Bool, true, false, List, [], ◌∷◌, length, Option, Some, None}
use Rattle.std.proofs.Common.{Result, Ok, Err, IsTrue, refl, sym, ap, subst, arith}
use Rattle.std.specs.Prelude.{bytes_eq, codes, IfOk, IfErr}
use Rattle.std.proofs.lemmas.Bool.{false≢true}
use Rattle.rpki_der.specs.declared.error.DecodeError.{DecodeError}
use Rattle.rpki_der.specs.declared.error.DecodeError.TheVariants.{OutOfMemory}
use Rattle.rpki_der.specs.TagName.{sequence}
use Rattle.rpki_der.specs.Reading.{Accepts, Refuses}
use Rattle.rpki_der.specs.Values.{SpellsContents}
use Rattle.rpki_der.specs.Each.{SpellsEach, SpellsSome}
use Rattle.rpki_der.specs.FirstFault.{RepeatedFault}
use Rattle.rpki_der.specs.FirstFault.RepeatedFault.{AfterMember}
use Rattle.rpki_der.proofs.LeafValueLaws.{leaf-shorter}
use Rattle.rpki.specs.ExtensionValue.{ExtensionParts, SpellsExtension, IsExtensionContents}
use Rattle.rpki.specs.ExtensionFault.{extension}
use Rattle.rpki.specs.UnknownAlgorithm.{IsContentWith}
use Rattle.rpki_cert.specs.declared.read.cert_part.CertPart.{CertPart}
use Rattle.rpki_cert.specs.declared.read.cert_error.CertError.{CertError}
use Rattle.rpki_cert.specs.Cert.{find, is_there, are_unique, extensions_tag}
use Rattle.rpki_cert.specs.ExtensionTable.{OfListed}
use Rattle.rpki_cert.specs.View.{IsListWrong, AreExtensionsWrong, AreExtensionsAt, HasCount, IsApart}
use Rattle.rpki_cert.specs.View.{most_extensions, AreListedAt}
use Rattle.rpki_cert.specs.View.IsListWrong.{TooMany, Repeated, NoRoom}
use Rattle.rpki_cert.specs.View.WholeWrong.{InFrame}
use Rattle.rpki_cert.proofs.GatherLaws.{Gathers, gathers-on}

-- ---- the rest of extensions

abbrev pub Each : List ExtensionParts → List ℕ → Type 0
Each = SpellsEach SpellsExtension

-- the extensions of s, without the first
pub each-rest : (s q : List ℕ) (x : ExtensionParts) (ys : List ExtensionParts) → s ≢ [] → Accepts SpellsExtension s x q
    → Each ys s → (zs : List ExtensionParts) × (ys ≡ x ∷ zs) × Each zs q
each-rest s q x [] some a h = absurd (some h)
each-rest s q x (y ∷ zs) some a h = let e = a.only y h.0 h.1 in
    (zs, ap (λ (w : ExtensionParts). w ∷ zs) e.0, subst (Each zs) e.1 h.2)

pub each-none : (s : List ℕ) (ys : List ExtensionParts) → s ≢ [] → Refuses SpellsExtension s → Each ys s → ⊥
each-none s [] some none h = some h
each-none s (y ∷ zs) some none h = none y h.0 h.1

pub each-end : (s : List ℕ) (ys : List ExtensionParts) → s ≡ [] → Each ys s → ys ≡ []
each-end s [] e h = refl
each-end s (y ∷ ys) e h =
    absurd (omega (arith, ap length e, leaf-shorter sequence true IsExtensionContents s y h.0 h.1))

pub find-other : (id : List ℕ) (x : ExtensionParts) (zs : List ExtensionParts) → bytes_eq x.identifier id ≡ false
    → find id (x ∷ zs) ≡ find id zs
find-other id x zs e = rw e refl

-- ---- whether an identifier is there

abbrev pub Has : List ℕ → List ℕ → List ℕ → Type 0
Has id = Gathers SpellsExtension (λ xs. is_there (find id xs)) (λ b. b)

module _ (id s r q : List ℕ) (x : ExtensionParts) (some : r ≢ []) (h : Has id s r)
    (a : Accepts SpellsExtension r x q) where
  pub has-on : bytes_eq x.identifier id ≡ false → Has id s q
  has-on other =
      gathers-on SpellsExtension (λ xs. is_there (find id xs)) s (λ b. b) (λ b. b) r q x
      (λ zs. ap is_there (find-other id x zs other)) some h a

  pub has-found : bytes_eq x.identifier id ≡ true → OfListed s (λ xs. true ≡ is_there (find id xs))
  has-found same xs k =
      let (ys, each, e) = h.back xs k in
      let (zs, is, rest) = each-rest r q x ys some a each in
      sym (e ∙ ap (λ (ws : List ExtensionParts). is_there (find id ws)) is ∙ rw same refl)

pub has-none : (id s r : List ℕ) → r ≢ [] → Has id s r → Refuses SpellsExtension r
    → OfListed s (λ xs. false ≡ is_there (find id xs))
has-none id s r some h none xs k = let (ys, each, e) = h.back xs k in absurd (each-none r ys some none each)

pub has-end : (id s r : List ℕ) → r ≡ [] → Has id s r → OfListed s (λ xs. false ≡ is_there (find id xs))
has-end id s r end h xs k =
    let (ys, each, e) = h.back xs k in
    sym (e ∙ ap (λ (zs : List ExtensionParts). is_there (find id zs)) (each-end r ys end each))

-- ---- whether no two have the same identifier

-- what is unique in r is unique in s
pub record KeepsUnique (s r : List ℕ) : Type 0 where
  pub same : (xs : List ExtensionParts) → Each xs s
      → (ys : List ExtensionParts) × Each ys r × (are_unique xs ≡ are_unique ys)

pub first-once : (x : ExtensionParts) (zs : List ExtensionParts) → find x.identifier zs ≡ None
    → are_unique (x ∷ zs) ≡ are_unique zs
first-once x zs e = rw e refl

first-twice : (x : ExtensionParts) (zs : List ExtensionParts) → is_there (find x.identifier zs) ≡ true
    → are_unique (x ∷ zs) ≡ false
first-twice x zs e = rw e refl

not-there : (o : Option ExtensionParts) → false ≡ is_there o → o ≡ None
not-there None e = refl
not-there (Some x) e = absurd (false≢true e)

pub unique-on : (s r q : List ℕ) (x : ExtensionParts) → r ≢ [] → KeepsUnique s r → Accepts SpellsExtension r x q
    → OfListed q (λ zs. false ≡ is_there (find x.identifier zs)) → KeepsUnique s q
unique-on s r q x some h a none = record {
  same = λ xs k.
      let (ys, each, e) = h.same xs k in
      let (zs, is, rest) = each-rest r q x ys some a each in
      (zs, rest, e ∙ ap are_unique is ∙ first-once x zs (not-there _ (none zs rest)));
}

pub unique-twice : (s r q : List ℕ) (x : ExtensionParts) → r ≢ [] → KeepsUnique s r → Accepts SpellsExtension r x q
    → OfListed q (λ zs. true ≡ is_there (find x.identifier zs)) → OfListed s (λ xs. false ≡ are_unique xs)
unique-twice s r q x some h a two xs k =
    let (ys, each, e) = h.same xs k in
    let (zs, is, rest) = each-rest r q x ys some a each in
    sym (e ∙ ap are_unique is ∙ first-twice x zs (sym (two zs rest)))

pub unique-none : (s r : List ℕ) → r ≢ [] → KeepsUnique s r → Refuses SpellsExtension r
    → OfListed s (λ xs. false ≡ are_unique xs)
unique-none s r some h none xs k = let (ys, each, e) = h.same xs k in absurd (each-none r ys some none each)

pub unique-end : (s r : List ℕ) → r ≡ [] → KeepsUnique s r → OfListed s (λ xs. true ≡ are_unique xs)
unique-end s r end h xs k = let (ys, each, e) = h.same xs k in sym (e ∙ ap are_unique (each-end r ys end each))

pub nothing-there : (s : List ℕ) → s ≡ [] → (xs : List ExtensionParts) → SpellsSome SpellsExtension xs s → ⊥
nothing-there s e xs k = k.some (each-end s xs e k.each)

-- ---- the first that isn't one

abbrev Fault : List ℕ → DecodeError → Type 0
Fault = RepeatedFault SpellsExtension extension.fault

-- what is wrong in r is wrong in s
pub record KeepsFault (s r : List ℕ) : Type 0 where
  pub kept : (e : DecodeError) → Fault r e → Fault s e

pub faults-all : (s : List ℕ) → KeepsFault s s
faults-all s = record { kept = λ e h. h }

pub faults-on : (s r q : List ℕ) (x : ExtensionParts) → r ≢ [] → Accepts SpellsExtension r x q → KeepsFault s r
    → KeepsFault s q
faults-on s r q x some a k = record { kept = λ e h. k.kept e (AfterMember x q a h) }

-- ---- the list of extensions

abbrev IsAll : {V : Type 0} → (V → List ℕ → Type 0) → V → List ℕ → Type 0
IsAll {V} G v s = G v s × ((w : V) → G w s → w ≡ v)

module _ (s : List ℕ) (n : ℕ) (h : HasCount s n) where
  -- two have one identifier
  pub twice : (allocates unique : Bool) (q : CertError) → IsApart allocates s n unique → unique ≡ false
      → q.part ≡ CertPart.ExtensionIdentifiers → IsContentWith (codes "duplicate extension") q.error
      → IsListWrong allocates s q
  twice allocates unique q a two part text =
      Repeated h.extensions h.some (λ z. let k = a.few z in omega (arith, h.count, k))
      (λ z. false≢true (sym two ∙ a.answer h.extensions h.some.each ∙ z)) part text

  pub too-many : (allocates : Bool) (q : CertError) → allocates ≡ false → most_extensions < n
      → q.part ≡ CertPart.ExtensionCount → IsContentWith (codes "too many extensions") q.error
      → IsListWrong allocates s q
  too-many allocates q other many part text =
      TooMany h.extensions h.some other (omega (arith, h.count, many)) part text

  pub no-room : (allocates : Bool) (q : CertError) → allocates ≡ true → most_extensions < n
      → q.part ≡ CertPart.Extensions → q.error ≡ OutOfMemory → IsListWrong allocates s q
  no-room allocates q is many part out = NoRoom h.extensions h.some is (omega (arith, h.count, many)) part out

  pub listed-at : (t : List ℕ) → OfListed s (λ xs. IsTrue (are_unique xs)) → t ≡ s → AreListedAt s t
  listed-at t once same = record {
    extensions = h.extensions;
    spelled = record { some = h.some; unique = once h.extensions h.some.each };
    list = same;
  }

pub extensions-at : (s c l t : List ℕ) → IsAll (SpellsContents extensions_tag true) c s
    → IsAll (SpellsContents sequence true) l c → AreListedAt l t → AreExtensionsAt s t
extensions-at s c l t a b k = record {
  extensions = k.extensions;
  spelled = record {
    contents = c;
    value = a.0;
    spelled = record { contents = l; value = b.0; spelled = k.spelled };
  };
  list = k.list;
}

-- the reader of the list, whose result is handed on
pub list-handed : (s c l : List ℕ) (x : Result (List ℕ) CertError) → IsAll (SpellsContents extensions_tag true) c s
    → IsAll (SpellsContents sequence true) l c → IfOk x (λ t. AreListedAt l t) → IfOk x (λ t. AreExtensionsAt s t)
list-handed s c l (Ok t) a b k = extensions-at s c l t a b k
list-handed s c l (Err q) a b k = k

pub list-handed-wrong : (allocates : Bool) (s c l : List ℕ) (x : Result (List ℕ) CertError)
    → IsAll (SpellsContents extensions_tag true) c s → IsAll (SpellsContents sequence true) l c
    → IfErr x (λ q. IsListWrong allocates l q) → IfErr x (λ q. AreExtensionsWrong allocates s q)
list-handed-wrong allocates s c l (Ok t) a b k = k
list-handed-wrong allocates s c l (Err q) a b k = InFrame c a.0 (InFrame l b.0 k)
