-- What is found, and that there is nothing else to be found.
use Rattle.std.proofs.Common.{◌≡◌, ◌∙◌, ◌<◌, ℕ, List, [], ◌∷◌, length, get_or, map, take, true}
use Rattle.std.proofs.Common.{inl, inr, ap, refl, sym, subst, arith}
use Rattle.std.proofs.NetLemmas.Theorems.{IsIpText_unique}
use Rattle.std.proofs.Math.Dec.{eqb}
use Rattle.std.proofs.lemmas.Bool.{false≢true}
use Rattle.std.proofs.lemmas.Bool.Decides.{eqb_tells}
use Rattle.std.proofs.lemmas.List.{length-take, take-map}
use Rattle.std.proofs.lemmas.Option.{slice_get-map, slice_get_read}
use Rattle.std.specs.Net.Grammar.{IsIpText}
use Rattle.std.specs.Prelude.{Option, Some, None, MatchOption, codes, is_some, option_and_then, option_map}
use Rattle.std.specs.Prelude.{suc}
use Rattle.std.specs.Str.Parse.{digits_value, without_leading_plus}
use Rattle.std.specs.declared.net.ip_addr.IpAddr.{IpAddr}
use Rattle.serde_json.specs.Data.{Data}
use Rattle.serde_json.specs.Find.{as_array, as_str, get}
use Rattle.serde_json.specs.View.{items_view, view}
use Rattle.serde_json.specs.declared.value.Value.{Value}
use Rattle.rpki_resources.proofs.IpReadLaws.{one-cut, number-none}
use Rattle.rpki_resources.specs.declared.ip_text.Prefix.{Prefix}
use Rattle.rpki_resources.specs.IpRead.{IsPrefixText}
use Rattle.rpki_payloads.specs.declared.exceptions_text.ExceptionsError.{ExceptionsError}
use Rattle.rpki_payloads.specs.declared.exceptions_text.ExceptionsError.TheVariants as E
use Rattle.rpki_payloads.specs.declared.exceptions_text.Member.{Member}
use Rattle.rpki_payloads.specs.declared.payload_list.ListError.{ListError}
use Rattle.rpki_payloads.specs.declared.payload_list.ListError.TheVariants as L
use Rattle.rpki_payloads.specs.declared.vrp.Vrp.{Vrp}
use Rattle.rpki_payloads.specs.Exceptions.{AreEach, Finds, IsFirstOther}
use Rattle.rpki_payloads.specs.ExceptionsText.{IsArrayFault, IsElementFault, member_name}
use Rattle.rpki_payloads.specs.ExceptionsText.{IsMember, IsNumberIn, IsPrefixIn, IsVrpWith, MayBeMember}
use Rattle.rpki_payloads.specs.Listed.{AreFields, IsAsIn, IsAsText, IsElement, IsLengthText, IsRoasFault}
use Rattle.rpki_payloads.specs.Listed.{IsElementFault as ListedElementFault}
use Rattle.rpki_payloads.proofs.MemberLaws.{each-map}

pub the-same : {X : Type 0} {x y : X} → Some x ≡ Some y → x ≡ y
the-same e = cc

pub same-number : (x y : ℕ) → x ≡ y → eqb x y ≡ true
same-number x y e = elim (eqb_tells x y) [
  | inl k ↦ k.0
  | inr k ↦ absurd (k.1 e)
]

-- P and Q are true of the same
pub finds-as : {X : Type 0} (o : Option X) (P Q : X → Type 0) → ((x : X) → P x → Q x) → ((x : X) → Q x → P x)
    → Finds P o → Finds Q o
finds-as None P Q there back none = λ x q. none x (back x q)
finds-as (Some x) P Q there back p = there x p

-- ---- members

pub other-member : {X : Type 0} (name : List ℕ) (R : Data → X → Type 0) (d m : Data) → get name d ≡ Some m
    → ((x : X) → R m x → ⊥) → (o : Option X) → MayBeMember name R d o → ⊥
other-member name R d m there none None h =
    absurd (false≢true (ap (λ (o : Option Data). is_some o) (sym h ∙ there)))
other-member name R d m there none (Some x) h =
    let e : h.0 ≡ m = cc in none x (subst (λ (n : Data). R n x) e h.2)

pub at-member : {X : Type 0} (name : List ℕ) (R : Data → X → Type 0) (d m : Data) → get name d ≡ Some m → (o : Option X)
    → Finds (R m) o → Finds (IsMember name R d) o
at-member name R d m there o found =
    finds-as o (R m) (IsMember name R d) (λ x r. (m, there, r))
    (λ x h. subst (λ (n : Data). R n x) (the-same (sym h.1 ∙ there)) h.2) found

pub member-one : {X : Type 0} (name : List ℕ) (R : Data → X → Type 0) (d : Data) (x y : X)
    → ((m : Data) (x y : X) → R m x → R m y → x ≡ y) → IsMember name R d x → IsMember name R d y → x ≡ y
member-one {X} name R d x y one h k =
    let e : h.0 ≡ k.0 = cc in one k.0 x y (subst (λ (m : Data). R m x) e h.2) k.2

pub maybe-one : {X : Type 0} (name : List ℕ) (R : Data → X → Type 0) (d : Data) (x y : Option X)
    → ((m : Data) (x y : X) → R m x → R m y → x ≡ y) → MayBeMember name R d x → MayBeMember name R d y → x ≡ y
maybe-one name R d None None one h k = refl
maybe-one name R d None (Some y) one h k =
    absurd (false≢true (ap (λ (o : Option Data). is_some o) (sym h ∙ k.1)))
maybe-one name R d (Some x) None one h k =
    absurd (false≢true (ap (λ (o : Option Data). is_some o) (sym k ∙ h.1)))
maybe-one name R d (Some x) (Some y) one h k = ap Some (member-one name R d x y one h k)

pub number-one : (d : Data) (x y : ℕ) → IsNumberIn d x → IsNumberIn d y → x ≡ y
number-one d x y h k = cc

-- ---- texts

pub as-text-one : (text : List ℕ) (x y : ℕ) → IsAsText text x → IsAsText text y → x ≡ y
as-text-one text x y h k = h.2 ∙ sym h.1.value ∙ k.1.value ∙ sym k.2

pub length-text-one : (text : List ℕ) (x y : ℕ) → IsLengthText text x → IsLengthText text y → x ≡ y
length-text-one text x y h k = sym h.value ∙ k.value

pub prefix-text-one : (text : List ℕ) (p q : Prefix) → IsPrefixText text p → IsPrefixText text q → p ≡ q
prefix-text-one text p q h k =
    let e = one-cut 47 h.0 h.1 k.0 k.1 (sym h.2 ∙ k.2) (number-none h.1 h.3.digits.1)
    (number-none k.1 k.3.digits.1) in
    let addr = IsIpText_unique k.0 p.addr q.addr
    (subst (λ (t : List ℕ). IsIpText t p.addr) e.0 h.3.is_address) k.3.is_address in
    let len = sym h.3.value ∙ ap (λ (t : List ℕ). digits_value 10 (without_leading_plus t)) e.1 ∙ k.3.value in
    ap (λ (a : IpAddr). record { addr = a; len = p.len }) addr
    ∙ ap (λ (n : ℕ). record { addr = q.addr; len = n }) len

pub prefix-one : (d : Data) (p q : Prefix) → IsPrefixIn d p → IsPrefixIn d q → p ≡ q
prefix-one d p q h k =
    let e : h.0 ≡ k.0 = cc in
    prefix-text-one k.0 p q (subst (λ (t : List ℕ). IsPrefixText t p) e h.2) k.2

pub as-one : (d : Data) (x y : ℕ) → IsAsIn d x → IsAsIn d y → x ≡ y
as-one d x y = by (as_str d)
  where
    by : (o : Option (List ℕ)) → MatchOption o (IsNumberIn d x) (λ text. IsAsText text x)
        → MatchOption o (IsNumberIn d y) (λ text. IsAsText text y) → x ≡ y
    by None h k = number-one d x y h k
    by (Some text) h k = as-text-one text x y h k

-- ---- payloads

pub one-vrp : (v : Vrp) (p q : Prefix) (m n : Option ℕ) (a b : ℕ) → p ≡ q → m ≡ n → a ≡ b → IsVrpWith p m a v
    → IsVrpWith q n b v
one-vrp v p q m n a b same long number h =
    subst (λ (z : Prefix). IsVrpWith z n b v) same
    (subst (λ (z : Option ℕ). IsVrpWith p z b v) long (subst (λ (z : ℕ). IsVrpWith p m z v) number h))

-- the same fields
pub same-fields : {number number2 text text2 digits digits2 : List ℕ} (v : Vrp) → Some number ≡ Some number2
    → Some text ≡ Some text2 → Some digits ≡ Some digits2 → AreFields number2 text2 digits2 v
    → AreFields number text digits v
same-fields {number} {number2} {text} {text2} {digits} {digits2} v a b c h =
    let d : number2 ≡ number = cc in
    let e : text2 ≡ text = cc in
    let f : digits2 ≡ digits = cc in
    subst (λ (s : List ℕ). AreFields number text s v) f
    (subst (λ (s : List ℕ). AreFields number s digits2 v) e (subst (λ (s : List ℕ). AreFields s text2 digits2 v) d h))

-- ---- elements

pub each-length : {A B : Type 0} (R : A → B → Type 0) (xs : List A) (ys : List B) → AreEach R xs ys
    → length xs ≡ length ys
each-length R [] [] h = refl
each-length R [] (y ∷ ys) h = absurd h
each-length R (x ∷ xs) [] h = absurd h
each-length R (x ∷ xs) (y ∷ ys) h = ap suc (each-length R xs ys h.1)

-- the one after those that are each of something
pub first-other : {A B : Type 0} (R : A → B → Type 0) (all : List A) (ys : List B) (i n : ℕ) (x : A) → n ≡ length ys
    → i < length all → x ≡ get_or all i x → AreEach R (take i all) ys → ((y : B) → R x y → ⊥) → IsFirstOther R all n
first-other R all ys i n x long lt is each none =
    let e : i ≡ n = size in
    subst (λ (k : ℕ). IsFirstOther R all k) e
    (record {
      before = ys;
      are = each;
      other = x;
      there = slice_get_read all (length all) i x refl lt is;
      none = none;
    })
  where
    size : i ≡ n
    size =
        let cut = length-take i all in
        let same = each-length R (take i all) ys each in
        omega (arith, cut, same, long, lt)

pub first-map : {A B C : Type 0} (f : A → B) (R : B → C → Type 0) (xs : List A) (i : ℕ)
    → IsFirstOther (λ x. R (f x)) xs i → IsFirstOther R (map f xs) i
first-map {A} f R xs i h = record {
  before = h.before;
  are = rw (take-map f i xs) (each-map f R (take i xs) h.before h.are);
  other = f h.other;
  there = slice_get-map f xs i ∙ ap (λ (o : Option A). option_map f o) h.there;
  none = h.none;
}

-- ---- arrays

pub roas-fault : (d : Data) (values seen : List Value) → seen ≡ values
    → Some (items_view values) ≡ option_and_then as_array (get (codes "roas") d) → (e : ListError)
    → ListedElementFault seen e → IsRoasFault d e
roas-fault d values seen same there (L.Element i) h = (
  map view values,
  sym there,
  first-map view IsElement values i
      (subst (λ (vs : List Value). IsFirstOther (λ v. IsElement (view v)) vs i) same h),
)
roas-fault d values seen same there L.OutOfMemory h = tt
roas-fault d values seen same there L.Json h = absurd h
roas-fault d values seen same there L.Roas h = absurd h
roas-fault d values seen same there (L.Line n) h = absurd h

pub array-fault : {X : Type 0} (R : Data → X → Type 0) (m : Member) (d : Data) (values seen : List Value)
    → seen ≡ values → Some (items_view values) ≡ option_and_then as_array (get (member_name m) d)
    → (e : ExceptionsError) → IsElementFault (λ v. R (view v)) m seen e → IsArrayFault R m d e
array-fault R m d values seen same there (E.Element n i) h = (
  h.0,
  map view values,
  sym there,
  first-map view R values i (subst (λ (vs : List Value). IsFirstOther (λ v. R (view v)) vs i) same h.1),
)
array-fault R m d values seen same there E.OutOfMemory h = tt
array-fault R m d values seen same there (E.Json n) h = absurd h
array-fault R m d values seen same there E.Twice h = absurd h
array-fault R m d values seen same there E.Members h = absurd h
array-fault R m d values seen same there (E.Missing n) h = absurd h
