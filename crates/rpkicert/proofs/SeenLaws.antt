-- What is seen of a file.
use Rattle.std.proofs.Common.{◌≡◌, ℕ, suc, ◌+◌, ◌<◌, ◌≤◌, List, [], ◌∷◌, ◌++◌, length, get_or, take, map, refl, sym, ap}
use Rattle.std.proofs.Common.{subst, ◌∙◌, inl, inr, arith}
use Rattle.std.proofs.lemmas.List.{take_more, map-append, length-map, length-take}
use Rattle.std.proofs.lemmas.Bool.{le-ltb, lt-ltb}
use Rattle.std.specs.Prelude.{Bool, true, false, is_some, nat_lt, option_map, Option, Some, None, Result, Ok, Err}
use Rattle.std.specs.Prelude.{IfOk, IfSome}
use Rattle.rpki_fields.specs.declared.rendering.Form.{Form}
use Rattle.rpkicert.specs.declared.fault.Fault.{Fault}
use Rattle.rpkicert.specs.declared.fault.Fault.TheVariants.{Unreadable, TooLarge, OutOfMemory, Malformed, Refused}
use Rattle.rpkicert.specs.declared.fault.Fault.TheVariants.{OtherText}
use Rattle.rpkicert.specs.declared.fault.Fault.TheVariants.{Empty, Neither, NoLocator}
use Rattle.rpkicert.specs.declared.fault.Fault.TheVariants.{Violated, Unverified, NoCertificate, NoList, OtherAlgorithm}
use Rattle.rpkicert.specs.declared.output.Output.{Output}
use Rattle.rpkicert.specs.Fault.{most_octets}
use Rattle.rpkicert.specs.Outcome.{is_other, IsRead}
use Rattle.rpkicert.specs.Pem.{bundle_in}
use Rattle.rpkicert.specs.Output.{OutputParts, numbered, AreSeenFrom, joined, bundle_of, other_of, IsOutput, IsSeenAs}
use Rattle.rpkicert.specs.Output.{IsSeenIn, IsSeenOf}
use Rattle.rpkicert.specs.Output.IsSeenOf.{OfAll, OfLocator, OfEach, OfNone}
use Rattle.rpkicert.specs.OutputView.{parts_of, seen_of, and_also, IsSeenBy}
use Rattle.rpkicert.specs.Requirements.{TermParts}
use Rattle.rpkicert.proofs.OutcomeLaws.{not-read}
use Rattle.rpkicert.proofs.RunLaws.{outputs-more, faults-more, worst-more}

-- one more text
from-more : (P : List ℕ → List ℕ → OutputParts → Type 0) (name : List ℕ) (number last : ℕ) (texts : List (List ℕ))
    (all : List OutputParts) (text : List ℕ) (s : OutputParts) → AreSeenFrom P name number texts all
    → last ≡ number + length texts → P (numbered name last) text s
    → AreSeenFrom P name number (texts ++ (text ∷ [])) (all ++ (s ∷ []))
from-more P name number last [] [] text s h e k =
    (subst (λ (n : ℕ). P (numbered name n) text s) (let f = e in omega arith) k, tt)
from-more P name number last [] (t ∷ ts) text s h e k = absurd h
from-more P name number last (w ∷ ws) [] text s h e k = absurd h
from-more P name number last (w ∷ ws) (t ∷ ts) text s h e k =
    (h.0, from-more P name (suc number) last ws ts text s h.1 (omega (arith, e)) k)

joined-more : (all : List OutputParts) (s : OutputParts) → joined (all ++ (s ∷ [])) ≡ and_also (joined all) s
joined-more all s = rw (outputs-more all s, faults-more all s, worst-more all s) refl

-- what was seen of the texts so far
pub record HasSeen (P : List ℕ → List ℕ → OutputParts
    → Type 0) (name : List ℕ) (texts : List (List ℕ)) (s : OutputParts)
    : Type 0 where
  pub all : List OutputParts
  pub seen : AreSeenFrom P name 1 texts all
  pub is : s ≡ joined all

-- the number of the next
sizes-at : {A : Type 0} (octets : A → List ℕ) (texts : List A) (i : ℕ) → i < length texts
    → i + 1 ≡ 1 + length (map octets (take i texts))
sizes-at octets texts i lt = simp (length-map, length-take) (omega arith)

pub seen-one : {A : Type 0} (octets : A → List ℕ) (P : List ℕ → List ℕ → OutputParts → Type 0) (name : List ℕ)
    (texts : List A) (i : ℕ) (text : A) (s t u : OutputParts) → i < length texts → text ≡ get_or texts i text
    → HasSeen P name (map octets (take i texts)) s → P (numbered name (i + 1)) (octets text) t → u ≡ and_also s t
    → HasSeen P name (map octets (take (i + 1) texts)) u
seen-one octets P name texts i text s t u lt e h k z =
    let more = ap (map octets) (take_more texts i text lt)
    ∙ map-append octets (take i texts) (get_or texts i text ∷ [])
    ∙ ap (λ w. map octets (take i texts) ++ (octets w ∷ [])) (sym e) in
    record {
      all = h.all ++ (t ∷ []);
      seen = subst (λ (w : List (List ℕ)). AreSeenFrom P name 1 w (h.all ++ (t ∷ []))) (sym more)
          (from-more P name 1 (i + 1) (map octets (take i texts)) h.all (octets text) t h.seen
          (sizes-at octets texts i lt) k);
      is = z ∙ ap (λ w. and_also w t) h.is ∙ sym (joined-more h.all t);
    }

-- ---- a file

-- whether there is an issuer
pub some-mapped : {A B : Type 0} (f : A → B) (o : Option A) → is_some o ≡ is_some (option_map f o)
some-mapped f None = refl
some-mapped f (Some x) = refl

-- what was read, by what it has of certificates
bundle-read : (input : List ℕ) → length input ≤ most_octets → bundle_of (Some input) ≡ bundle_in input
bundle-read input le =
    let e : nat_lt most_octets (length input) ≡ false = le-ltb most_octets (length input) le in
    rw e refl

-- what was read, by whether it is a locator, or none
other-read : (input : List ℕ) → length input ≤ most_octets → is_other input ≡ true → other_of (Some input) ≡ Some input
other-read input le other =
    let e : nat_lt most_octets (length input) ≡ false = le-ltb most_octets (length input) le in
    rw (e, other) refl

object-read : (input : List ℕ) → length input ≤ most_octets → is_other input ≡ false → other_of (Some input) ≡ None
object-read input le none =
    let e : nat_lt most_octets (length input) ≡ false = le-ltb most_octets (length input) le in
    rw (e, none) refl

-- what is seen of an input, by whether it is neither DER nor PEM
pub seen-as : (other : Bool) (check : Bool) (form : Form) (terms : TermParts) (name input : List ℕ) (s : OutputParts)
    → is_other input ≡ other → IsSeenAs other check form terms name input s
    → IsSeenIn check form terms name input s
seen-as other check form terms name input s e h =
    subst (λ (b : Bool). IsSeenAs b check form terms name input s) (sym e) h

read-as : (other : Bool) (check : Bool) (form : Form) (terms : TermParts) (name input : List ℕ) (s : OutputParts)
    → length input ≤ most_octets → is_other input ≡ other → bundle_in input ≡ None
    → IsSeenAs other check form terms name input s → IsSeenOf check form terms name (Some input) s
read-as true check form terms name input s le o e h =
    OfLocator input (bundle-read input le ∙ e) (other-read input le o) h
read-as false check form terms name input s le o e h =
    OfAll (bundle-read input le ∙ e) (object-read input le o) (inl (h.0, inl (le, h.1), h.2))

read-by : (check : Bool) (form : Form) (terms : TermParts) (name input : List ℕ) (bundle : Option (List (List ℕ)))
    (s : OutputParts) → length input ≤ most_octets → bundle_in input ≡ bundle
    → IsSeenBy check form terms name input bundle s → IsSeenOf check form terms name (Some input) s
read-by check form terms name input None s le e h =
    read-as (is_other input) check form terms name input s le refl e h
read-by check form terms name input (Some texts) s le e h = OfEach texts (bundle-read input le ∙ e) h

read-seen : (check : Bool) (form : Form) (terms : TermParts) (name input : List ℕ) (source : Option (List ℕ))
    (s : OutputParts) → IsRead source (Ok input) → IsSeenBy check form terms name input (bundle_in input) s
    → IsSeenOf check form terms name source s
read-seen check form terms name input None s h k = absurd h
read-seen check form terms name input (Some octets) s h k =
    subst (λ (w : List ℕ). IsSeenOf check form terms name (Some w) s) h.0
    (read-by check form terms name input (bundle_in input) s
    (subst (λ (w : List ℕ). length w ≤ most_octets) (sym h.0) h.1) refl k)

pub was-seen : {E : Type 0} (held : Option (Option (List ℕ))) (check : Bool) (form : Form) (terms : TermParts)
    (name input : List ℕ) (r : Result Output E) → IfSome held (λ source. IsRead source (Ok input))
    → IfOk r (λ s. IsSeenBy check form terms name input (bundle_in input) (parts_of s))
    → IfSome held (λ source. IsSeenOf check form terms name source (seen_of r))
was-seen None check form terms name input r h k = tt
was-seen (Some source) check form terms name input (Ok s) h k =
    read-seen check form terms name input source (parts_of s) h k
was-seen (Some source) check form terms name input (Err e) h k = OfNone (inr refl)

large-none : (octets : List ℕ) → most_octets < length octets → bundle_of (Some octets) ≡ None
large-none octets h =
    let e : nat_lt most_octets (length octets) ≡ true = lt-ltb most_octets (length octets) h in
    rw e refl

large-no-other : (octets : List ℕ) → most_octets < length octets → other_of (Some octets) ≡ None
large-no-other octets h =
    let e : nat_lt most_octets (length octets) ≡ true = lt-ltb most_octets (length octets) h in
    rw e refl

-- what wasn't read
unread-seen : (check : Bool) (form : Form) (terms : TermParts) (name : List ℕ) (source : Option (List ℕ)) (f : Fault)
    (s : OutputParts) → IsRead source (Err f) → IsOutput check form terms name (Err f) s
    → IsSeenOf check form terms name source s
unread-seen check form terms name None f s h k = OfAll refl refl (inl (Err f, not-read terms None f h, k))
unread-seen check form terms name (Some octets) TooLarge s h k =
    OfAll (large-none octets h) (large-no-other octets h)
    (inl (Err TooLarge, not-read terms (Some octets) TooLarge h, k))
unread-seen check form terms name (Some octets) OutOfMemory s h k = OfNone (inl k)
unread-seen check form terms name (Some octets) (Unreadable cause) s h k = absurd h
unread-seen check form terms name (Some octets) Empty s h k = absurd h
unread-seen check form terms name (Some octets) Neither s h k = absurd h
unread-seen check form terms name (Some octets) (NoLocator e) s h k = absurd h
unread-seen check form terms name (Some octets) Malformed s h k = absurd h
unread-seen check form terms name (Some octets) (OtherText kind) s h k = absurd h
unread-seen check form terms name (Some octets) (Refused kind place e) s h k = absurd h
unread-seen check form terms name (Some octets) (Violated e) s h k = absurd h
unread-seen check form terms name (Some octets) (Unverified clause e) s h k = absurd h
unread-seen check form terms name (Some octets) NoCertificate s h k = absurd h
unread-seen check form terms name (Some octets) NoList s h k = absurd h
unread-seen check form terms name (Some octets) OtherAlgorithm s h k = absurd h

pub not-seen : {E : Type 0} (held : Option (Option (List ℕ))) (check : Bool) (form : Form) (terms : TermParts)
    (name : List ℕ) (f : Fault) (r : Result Output E) → IfSome held (λ source. IsRead source (Err f))
    → IfOk r (λ s. IsOutput check form terms name (Err f) (parts_of s))
    → IfSome held (λ source. IsSeenOf check form terms name source (seen_of r))
not-seen None check form terms name f r h k = tt
not-seen (Some source) check form terms name f (Ok s) h k = unread-seen check form terms name source f (parts_of s) h k
not-seen (Some source) check form terms name f (Err x) h k = OfNone (inr refl)
