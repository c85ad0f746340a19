-- The files under those that are named.
use Rattle.std.proofs.Common.{◌≡◌, ℕ, List, [], ◌∷◌, ◌++◌, refl, sym, ap, subst, ◌∙◌, append_assoc, arith}
use Rattle.std.proofs.lemmas.List.{append-nil}
use Rattle.std.proofs.lemmas.List.Elements.{All-tail}
use Rattle.std.specs.Prelude.{Bool, true, false, Option, Some, None, All, IsSome, IfSome}
use Rattle.rpki_cli.specs.World.{World}
use Rattle.rpkicert.specs.Moment.{Clock}
use Rattle.rpkicert.specs.Request.{Asked, with_files}
use Rattle.rpkicert.specs.Run.{Holds, IsRunOf, EndsWellWith}
use Rattle.rpkicert.specs.Under.{Lists, AreUnder, AreNamed, IsRunUnder, IsKnownUnder}
use Rattle.rpkicert.specs.Under.IsRunUnder.{Named, Nameless}
use Rattle.rpkicert.specs.Words.{Complains, Writes, memory_text}
use Rattle.rpkicert.proofs.OneAnswerLaws.{one-output}

-- those under one more
under-more : (lists : Lists) (names all : List (List ℕ)) (name : List ℕ) (own : List (List ℕ))
    → AreUnder lists names all → IfSome (lists name) (λ known. own ≡ known)
    → AreUnder lists (names ++ (name ∷ [])) (all ++ own)
under-more lists [] all name own h k = (own, [], k, refl, ap (λ (w : List (List ℕ)). w ++ own) h ∙ sym (append-nil own))
under-more lists (n ∷ ns) all name own h k = (
  h.0,
  h.1 ++ own,
  h.2,
  under-more lists ns h.1 name own h.3 k,
  ap (λ (w : List (List ℕ)). w ++ own) h.4 ∙ append_assoc h.0 h.1 own,
)

-- the same of the lists that they make
pub one-more : (lists : Lists) (names all : List (List ℕ)) (name : List ℕ) (own more whole : List (List ℕ))
    → AreUnder lists names all → IfSome (lists name) (λ known. own ≡ known) → more ≡ names ++ (name ∷ [])
    → whole ≡ all ++ own → AreUnder lists more whole
one-more lists names all name own more whole h k e f =
    subst (λ (w : List (List ℕ)). AreUnder lists w whole) (sym e)
    (subst (λ (w : List (List ℕ)). AreUnder lists (names ++ (name ∷ [])) w) (sym f)
    (under-more lists names all name own h k))

-- where they are known, there is one list of them
same-known : (known : Option (List (List ℕ))) (x y : List (List ℕ)) → IsSome known → IfSome known (λ k. x ≡ k)
    → IfSome known (λ k. y ≡ k) → x ≡ y
same-known None x y is g h = absurd cc
same-known (Some k) x y is g h = g ∙ sym h

one-under : (lists : Lists) (names x y : List (List ℕ)) → All (λ name. IsSome (lists name)) names
    → AreUnder lists names x → AreUnder lists names y → x ≡ y
one-under lists [] x y known g h = g ∙ sym h
one-under lists (n ∷ ns) x y known g h =
    let own = same-known (lists n) g.0 h.0 (known 0 [] (omega arith)) g.2 h.2 in
    let rest = one-under lists ns g.1 h.1 (All-tail (λ (name : List ℕ). IsSome (lists name)) n ns known) g.3 h.3 in
    g.4 ∙ rw (own, rest) (sym h.4)

one-named : (lists : Lists) (recursive : Bool) (files x y : List (List ℕ))
    → (recursive ≡ true → All (λ name. IsSome (lists name)) files) → AreNamed lists recursive files x
    → AreNamed lists recursive files y → x ≡ y
one-named lists false files x y known g h = g ∙ sym h
one-named lists true files x y known g h = one-under lists files x y (known refl) g h

-- what has no names ends with the status 2
nameless : {P : Type 0} (old new : World) → Complains old new memory_text 0 → P
nameless old new h = absurd (let e = h.1 in omega arith)

the-same : (lists : Lists) (holds : Holds) (clock : Clock) (a : Asked) (names : List (List ℕ)) (output said : List ℕ)
    → IsKnownUnder lists holds clock a → AreNamed lists a.recursive a.files names
    → EndsWellWith holds clock (with_files a names) output said
    → (old new : World) → IsRunUnder lists holds clock old new 0 a
    → Writes old new output said
the-same lists holds clock a names output said known g ends old new (Named others h run) =
    ends old new (subst (λ (w : List (List ℕ)). IsRunOf holds clock old new 0 (with_files a w))
    (one-named lists a.recursive a.files others names known.known h g) run)
the-same lists holds clock a names output said known g ends old new (Nameless p) = nameless old new p

pub one-output-under : (lists : Lists) (holds : Holds) (clock : Clock) (a : Asked)
    → IsKnownUnder lists holds clock a → (old new : World)
    → IsRunUnder lists holds clock old new 0 a
    → (output : List ℕ) × (said : List ℕ)
    × ((old new : World) → IsRunUnder lists holds clock old new 0 a → Writes old new output said)
one-output-under lists holds clock a known old new (Named names g run) =
    let one = one-output holds clock (with_files a names) (known.files names g) old new run in
    (one.0, one.1, the-same lists holds clock a names one.0 one.1 known g one.2)
one-output-under lists holds clock a known old new (Nameless p) = nameless old new p

-- ---- the run

-- as they are named
pub plain : (lists : Lists) (holds : Holds) (clock : Clock) (old new : World) (status : ℕ) (a : Asked)
    → a.recursive ≡ false → IsRunOf holds clock old new status a
    → IsRunUnder lists holds clock old new status a
plain lists holds clock old new status a e run =
    Named a.files (subst (λ (r : Bool). AreNamed lists r a.files a.files) (sym e) refl) run

-- as those under them
pub below : (lists : Lists) (holds : Holds) (clock : Clock) (old new : World) (status : ℕ) (a : Asked)
    (names : List (List ℕ)) → a.recursive ≡ true → AreUnder lists a.files names
    → IsRunOf holds clock old new status (with_files a names)
    → IsRunUnder lists holds clock old new status a
below lists holds clock old new status a names e under run =
    Named names (subst (λ (r : Bool). AreNamed lists r a.files names) (sym e) under) run

-- nothing is shown, since there is no memory for the names
pub unnamed : (lists : Lists) (holds : Holds) (clock : Clock) (old mid new : World) (status : ℕ) (a : Asked)
    → mid ≡ old → Complains mid new memory_text status → IsRunUnder lists holds clock old new status a
unnamed lists holds clock old mid new status a e p =
    Nameless (subst (λ (w : World). Complains w new memory_text status) e p)
