-- Two extensions that are all of some octets.
use Rattle.std.proofs.Common.{◌≡◌, ◌≢◌, ◌∙◌, ◌++◌, ◌⊎◌, ℕ, true, List, [], ◌∷◌, Option, None, Some, Ok, Err}
use Rattle.std.proofs.Common.{inl, inr, refl, sym, ap, subst}
use Rattle.std.specs.Prelude.{codes, IfSome, IfNone}
use Rattle.rpki_der.specs.declared.error.DecodeError.{DecodeError}
use Rattle.rpki_der.specs.declared.error.DecodeError.TheVariants.{Trailing, OutOfMemory}
use Rattle.rpki_der.specs.TagName.{TagName, sequence}
use Rattle.rpki_der.specs.Reading.{Spells, Accepts, Refuses, Refusal, SpellsNothing, UnlessMemory, OrMemoryWhere, Finds}
use Rattle.rpki_der.specs.Values.{SpellsContents, IsContentsFault}
use Rattle.rpki_der.specs.Each.{SpellsEach}
use Rattle.rpki_der.specs.FirstFault.{RepeatedFault}
use Rattle.rpki_der.specs.FirstFault.FirstFault.{AtPart, Later}
use Rattle.rpki_der.specs.FirstFault.RepeatedFault.{AtMember, AfterMember}
use Rattle.rpki_der.specs.Fold.{TakesFold}
use Rattle.rpki_der.specs.Format.{Format, around, only}
use Rattle.rpki_der.proofs.ReadingLaws.{UnlessMemory-weaker, UnlessMemory-from}
use Rattle.rpki_der.proofs.EachLaws.{leaf-some}
use Rattle.rpki_der.proofs.InsideLaws.{unless-memory, no-memory}
use Rattle.rpki_der.proofs.LeavesLaws.{leaf-value, contents-no-memory}
use Rattle.rpki_der.proofs.ComposedLaws.{outer-refused, inner-refused, inner-accepted, nothing-whole, nothing-after}
use Rattle.rpki_der.proofs.ComposedLaws.{all-read}
use Rattle.rpki_der.proofs.FirstFaultLaws.{repeated-no-memory}
use Rattle.rpki_der.proofs.OneFormatLaws.{contents-one}
use Rattle.rpki.specs.UnknownAlgorithm.{IsContentWith}
use Rattle.rpki.specs.ExtensionValue.{ExtensionParts, SpellsExtension, IsExtensionContents}
use Rattle.rpki.specs.ExtensionFault.{extension, extension_fields, kept_extension}
use Rattle.rpki.proofs.ExtensionFaultLaws.{extension-outer}
use Rattle.rpki.proofs.ExtensionLaws.{one-contents}
use Rattle.rpki_x509.specs.InPlace.{IsWholeOf}
use Rattle.rpki_x509.proofs.StandingForLaws.{none-there, none-stands, one-stands}
use Rattle.rpki_crl.specs.declared.crl_extensions.CrlExtensions.{CrlExtensions}
use Rattle.rpki_crl.specs.Crl.{ListExtensions, AreExtensions, AreOthers, extensions_of, extensions_tag, each_extension}
use Rattle.rpki_crl.specs.Crl.{extension_list, known_extensions, extensions}
use Rattle.rpki_crl.specs.CrlView.{AreTwo, AreTwoFault, AreExtensionsFault, Passes}
use Rattle.rpki_crl.proofs.EntriesLaws.{each-fault, repeated-kind}

record Two (v : ListExtensions) (s : List ℕ) : Type 0 where
  first : ExtensionParts
  second : ExtensionParts
  between : List ℕ
  one : Spells SpellsExtension s first between
  two : Spells SpellsExtension between second []
  say : AreExtensions v (first ∷ second ∷ [])

two-in : (v : ListExtensions) (s : List ℕ) (xs : List ExtensionParts) → SpellsEach SpellsExtension xs s
    → AreExtensions v xs → Two v s
two-in v s [] each say = absurd say
two-in v s (x ∷ []) each say = absurd say
two-in v s (x ∷ y ∷ []) each say = record {
  first = x;
  second = y;
  between = each.0;
  one = each.1;
  two = subst (λ (q : List ℕ). Spells SpellsExtension each.0 y q) each.2.2 each.2.1;
  say = say;
}
two-in v s (x ∷ y ∷ z ∷ zs) each say = absurd say

two-of : (v : ListExtensions) (s : List ℕ) → AreTwo v s → Two v s
two-of v s h = two-in v s h.extensions h.each h.say

pub first-refused : (s : List ℕ) → Refuses SpellsExtension s → SpellsNothing AreTwo s
first-refused s none v h = let t = two-of v s h in none t.first t.between t.one

module _ (s r : List ℕ) (x : ExtensionParts) (a : Accepts SpellsExtension s x r) where
  -- what follows the first
  behind : (v : ListExtensions) (t : Two v s) → Spells SpellsExtension r t.second []
  behind v t =
      subst (λ (q : List ℕ). Spells SpellsExtension q t.second []) (a.only t.first t.between t.one).1 t.two

  pub second-refused : Refuses SpellsExtension r → SpellsNothing AreTwo s
  second-refused none v h = let t = two-of v s h in none t.second [] (behind v t)

  module _ (q : List ℕ) (y : ExtensionParts) (b : Accepts SpellsExtension r y q) where
    pub more-follows : (q ≡ [] → ⊥) → SpellsNothing AreTwo s
    more-follows some v h = let t = two-of v s h in some (sym (b.only t.second [] (behind v t)).1)

    said : (v : ListExtensions) → AreTwo v s → AreExtensions v (x ∷ y ∷ [])
    said v h =
        let t = two-of v s h in
        let first = (a.only t.first t.between t.one).0 in
        let second = (b.only t.second [] (behind v t)).0 in
        subst (λ (z : ExtensionParts). AreExtensions v (x ∷ z ∷ [])) second
        (subst (λ (z : ExtensionParts). AreExtensions v (z ∷ t.second ∷ [])) first t.say)

    -- what the two say, if they say something of a list
    pub whole-two : q ≡ [] → (o : Option CrlExtensions)
        → IfSome o (λ e. AreExtensions (extensions_of e) (x ∷ y ∷ []))
        → IfSome o (λ e. (v : ListExtensions) → AreExtensions v (x ∷ y ∷ []) → v ≡ extensions_of e)
        → IfNone o ((v : ListExtensions) → AreExtensions v (x ∷ y ∷ []) → ⊥)
        → IsWholeOf extensions_of AreTwo s o
    whole-two end (Some e) say only none = (
      record { extensions = x ∷ y ∷ []; each = (r, a.spells, (q, b.spells, end)); say = say },
      λ w h. only w (said w h),
    )
    whole-two end None say only none = λ v h. none v (said v h)

-- ---- values that aren't kept have the errors of those that are, but allocation failure

never : (s : List ℕ) → extension.fault s OutOfMemory → ⊥
never s k = (extension-outer s OutOfMemory k).other refl

pub nowhere : (v : ExtensionParts) → extension.spells v [] → ⊥
nowhere = leaf-some sequence true extension_fields.spells

repeated-other : (s : List ℕ) (e : DecodeError) → RepeatedFault SpellsExtension extension.fault s e → e ≢ OutOfMemory
repeated-other s e h z =
    repeated-no-memory SpellsExtension extension.fault s never
    (subst (RepeatedFault SpellsExtension extension.fault s) z h)

kept : (s : List ℕ) (e : DecodeError) → e ≢ OutOfMemory → extension.fault s e
    → OrMemoryWhere (λ r. kept_extension.fault r OutOfMemory ⊎ Finds SpellsExtension r) kept_extension.fault s e
kept s e n k =
    no-memory (λ r. kept_extension.fault r OutOfMemory ⊎ Finds SpellsExtension r) kept_extension.fault s e n
    (no-memory (Finds SpellsExtension) extension.fault s e n k)

each-kept : (s : List ℕ) (e : DecodeError) → RepeatedFault SpellsExtension extension.fault s e
    → each_extension.fault s e
each-kept s e h =
    repeated-kind SpellsExtension extension.fault
    (OrMemoryWhere (λ r. kept_extension.fault r OutOfMemory ⊎ Finds SpellsExtension r) kept_extension.fault) kept s e
    (repeated-other s e h) h

-- ---- extensions are read in one way

nothing-first : (p r : List ℕ) (v : ExtensionParts) → [] ≡ p ++ r → SpellsExtension v p → ⊥
nothing-first [] r v e h = nowhere v h
nothing-first (x ∷ xs) r v e h = absurd (cc)

none-empty : (s r : List ℕ) (v : ExtensionParts) → s ≡ [] → Spells SpellsExtension s v r → ⊥
none-empty s r v end h = nothing-first h.front r v (sym end ∙ h.parts) h.spelled

each-nothing : (s : List ℕ) (e : DecodeError) → e ≢ OutOfMemory → RepeatedFault SpellsExtension extension.fault s e
    → SpellsNothing each_extension.spells s
each-nothing s e n (AtMember some none k) [] h = some h
each-nothing s e n (AtMember some none k) (x ∷ xs) h = unless-memory e n none x h.0 h.1
each-nothing s e n (AfterMember v r a k) [] h = none-empty s r v h a.spells
each-nothing s e n (AfterMember v r a k) (x ∷ xs) h =
    each-nothing r e n k xs (subst (each_extension.spells xs) (a.only x h.0 h.1).1 h.2)

extension-one : (s r q : List ℕ) (x y : ExtensionParts) → Spells SpellsExtension s x r → Spells SpellsExtension s y q
    → (y ≡ x) × (r ≡ q)
extension-one s r q x y h k =
    let a = leaf-value sequence true IsExtensionContents s x r h in
    let b = leaf-value sequence true IsExtensionContents s y q k in
    let is = contents-one sequence true s a.0 b.0 r q a.1 b.1 in
    (one-contents x y a.0 a.2 (subst (IsExtensionContents y) (sym is.0) b.2), is.1)

each-one : (xs ys : List ExtensionParts) (s : List ℕ) → SpellsEach SpellsExtension xs s
    → SpellsEach SpellsExtension ys s → ys ≡ xs
each-one [] [] s h k = refl
each-one [] (y ∷ ys) s h k = absurd (none-empty s k.0 y h k.1)
each-one (x ∷ xs) [] s h k = absurd (none-empty s h.0 x k h.1)
each-one (x ∷ xs) (y ∷ ys) s h k =
    let is = extension-one s h.0 k.0 x y h.1 k.1 in
    let more = each-one xs ys h.0 h.2 (subst (SpellsEach SpellsExtension ys) (sym is.1) k.2) in
    ap (λ (z : ExtensionParts). z ∷ ys) is.0 ∙ ap (λ (zs : List ExtensionParts). x ∷ zs) more

-- ---- the error of what is no such two

others : (s : List ℕ) (xs : List ExtensionParts) (e : DecodeError) → SpellsNothing AreTwo s
    → SpellsEach SpellsExtension xs s → IsContentWith (codes "extensions that no revocation list has") e
    → AreTwoFault s e
others s xs e none each text =
    inr (xs, each, (λ v say. none v (record { extensions = xs; each = each; say = say }), text))

pub not-two : (s r : List ℕ) (e : DecodeError) → SpellsNothing AreTwo s → TakesFold Passes extension tt s r (Ok tt)
    → IsContentWith (codes "extensions that no revocation list has") e → AreTwoFault s e
not-two s r e none h text = others s h.1 e none h.2 text

pub no-extension : (s r : List ℕ) (e : DecodeError) → TakesFold Passes extension tt s r (Err e) → AreTwoFault s e
no-extension s r e h = inl (each-fault Passes extension (λ from v. (_, refl)) tt s e h.1)

-- ---- the tag and the SEQUENCE around them

-- a value of this tag around contents of P
module _ {V : Type 0} (t : TagName) (P : Format V) {s q : List ℕ} {e : DecodeError} where
  frame-missing : Refusal (SpellsContents t true) (IsContentsFault t true) s q e
      → Refusal (around t P).spells (around t P).fault s s e
  frame-missing h = record {
    unchanged = refl;
    refuses = (outer-refused t true P.spells s q s e refl h).refuses;
    kind = AtPart h.refuses h.kind;
  }

  contents-wrong : {c : List ℕ} → Accepts (SpellsContents t true) s c q
      → UnlessMemory e (SpellsNothing P.spells c) × P.fault c e → Refusal (around t P).spells (around t P).fault s s e
  contents-wrong {c} a h = record {
    unchanged = refl;
    refuses = (inner-refused t true P.spells s c q s e refl a h.0).refuses;
    kind = Later c q a h.1;
  }

-- a value and nothing else
module _ {V : Type 0} (F : Format V) {s r : List ℕ} where
  alone-missing : {e : DecodeError} → Refusal F.spells F.fault s r e
      → UnlessMemory e (SpellsNothing F.spells s) × (only F).fault s e
  alone-missing {e} h = (UnlessMemory-weaker e (nothing-whole F.spells s) h.refuses, AtPart h.refuses h.kind)

  more-behind : {v : V} → Accepts F.spells s v r → (r ≡ [] → ⊥)
      → SpellsNothing F.spells s × (only F).fault s Trailing
  more-behind {v} a some = (nothing-after F.spells s r v a some, Later v r a (some, refl))

-- the SEQUENCE of extensions that are to be known
list-wrong : {c q : List ℕ} {e : DecodeError} → Refusal extension_list.spells extension_list.fault c q e
    → UnlessMemory e (SpellsNothing known_extensions.spells c) × (only known_extensions).fault c e
list-wrong h =
    alone-missing known_extensions
    (none-there AreExtensions extension_list.spells extension_list.fault AreOthers h)

-- the extensions that are to be all of s aren't there, and this is the error
abbrev HasFault : List ℕ → DecodeError → Type 0
HasFault s e = UnlessMemory e (SpellsNothing extensions.spells s) × AreExtensionsFault s e

has-fault : (s : List ℕ) (e : DecodeError) → e ≢ OutOfMemory
    → UnlessMemory e (SpellsNothing extensions.spells s) × (only extensions).fault s e → HasFault s e
has-fault s e n h = (h.0, record { other = n; kind = h.1 })

pub extensions-refused : (s : List ℕ) (e : DecodeError) → HasFault s e
    → SpellsNothing extensions.spells s × AreExtensionsFault s e
extensions-refused s e h = (unless-memory e h.1.other h.0, h.1)

content-other : (text : List ℕ) (e : DecodeError) → IsContentWith text e → e ≢ OutOfMemory
content-other text e h z = subst (IsContentWith text) z h

trailing-other : Trailing ≢ OutOfMemory
trailing-other z = cc

pub no-tag : (s q : List ℕ) (e : DecodeError)
    → Refusal (SpellsContents extensions_tag true) (IsContentsFault extensions_tag true) s q e → HasFault s e
no-tag s q e h =
    has-fault s e (contents-no-memory extensions_tag true s e h.kind)
    (alone-missing extensions (frame-missing extensions_tag (only known_extensions) h))

module _ (s c r : List ℕ) (outer : Accepts (SpellsContents extensions_tag true) s c r) where
  -- the SEQUENCE isn't there, or isn't of two
  within : (e : DecodeError) → e ≢ OutOfMemory
      → UnlessMemory e (SpellsNothing known_extensions.spells c) × (only known_extensions).fault c e → HasFault s e
  within e n h =
      has-fault s e n (alone-missing extensions (contents-wrong extensions_tag (only known_extensions) outer h))

  pub no-sequence : (q : List ℕ) (e : DecodeError)
      → Refusal (SpellsContents sequence true) (IsContentsFault sequence true) c q e → HasFault s e
  no-sequence q e h =
      within e (contents-no-memory sequence true c e h.kind) (list-wrong (frame-missing sequence each_extension h))

  module _ (d q : List ℕ) (inner : Accepts (SpellsContents sequence true) c d q) where
    these : (xs : List ExtensionParts) → SpellsEach SpellsExtension xs d → Accepts extension_list.spells c xs q
    these xs each =
        inner-accepted sequence true each_extension.spells c d q xs inner (each, λ ys k. each-one xs ys d each k)

    pub none-inside : (e : DecodeError) → AreTwoFault d e → HasFault s e
    none-inside e (inl h) =
        let n = repeated-other d e h in
        within e n
        (list-wrong
        (contents-wrong sequence each_extension inner (UnlessMemory-from e (each-nothing d e n h), each-kept d e h)))
    none-inside e (inr h) =
        within e (content-other (codes "extensions that no revocation list has") e h.2.1)
        (alone-missing known_extensions
        (none-stands AreExtensions extension_list.spells extension_list.fault AreOthers (these h.0 h.1)
        (UnlessMemory-from e h.2.0) h.2))

    module _ (x : CrlExtensions) (h : IsWholeOf extensions_of AreTwo d (Some x)) where
      one : Accepts known_extensions.spells c (extensions_of x) q
      one =
          one-stands AreExtensions extension_list.spells extension_list.fault AreOthers (extensions_of x)
          (these h.0.extensions h.0.each) h.0.say
          (λ w say. h.1 w (record { extensions = h.0.extensions; each = h.0.each; say = say }))

      pub more-inside : (q ≡ [] → ⊥) → HasFault s Trailing
      more-inside some = within Trailing trailing-other (more-behind known_extensions one some)

      module _ (end : q ≡ []) where
        all : Accepts extensions.spells s (extensions_of x) r
        all =
            inner-accepted extensions_tag true known_extensions.spells s c r (extensions_of x) outer
            (all-read known_extensions.spells c (extensions_of x) q one end)

        pub more-after : (r ≡ [] → ⊥) → HasFault s Trailing
        more-after some = has-fault s Trailing trailing-other (more-behind extensions all some)

        pub extensions-read : r ≡ []
            → extensions.spells (extensions_of x) s
            × ((w : ListExtensions) → extensions.spells w s → w ≡ extensions_of x)
        extensions-read last = all-read extensions.spells s (extensions_of x) r all last
