-- What clauses see of what an object is checked against.
use Rattle.std.specs.Prelude.{◌≡◌, ◌⊎◌, Option, option_map, Result, Ok, Err, MatchResult, if◌then◌else◌}
use Rattle.rpki.specs.declared.repository.error.ValidationError.{ValidationError}
use Rattle.rpkicert.specs.declared.fault.Clause.{Clause}
use Rattle.rpkicert.specs.declared.fault.Fault.{Fault}
use Rattle.rpkicert.specs.declared.fault.Fault.TheVariants.{Unverified, OutOfMemory}
use Rattle.rpkicert.specs.declared.requirements.Requirements.{Requirements}
use Rattle.rpki_cert.specs.RuleError.{ChecksBy}
use Rattle.rpki_cert.specs.Known.{is_memory}
use Rattle.rpkicert.specs.Requirements.{TermParts, term_parts, WhereSome, HasSome, WhereBoth, HasBoth, Wrong}

abbrev pub terms_of : Requirements → TermParts
terms_of x =
    term_parts x.inspection (option_map (λ t. t.now) x.issuer) (option_map (λ l. l.now) x.revocations) x.moment

-- the result of a check that this clause asks for
abbrev pub by_clause : Clause → Result (Unit {0}) ValidationError → Result (Unit {0}) Fault
by_clause clause (Ok x) = Ok x
by_clause clause (Err e) = Err (Unverified clause e)

-- a check that this clause asks for: Ok exactly where P holds, and else its fault, with such an error
abbrev pub ChecksClause : Clause → Type 0 → (ValidationError → Type 0) → Result (Unit {0}) Fault → Type 0
ChecksClause clause P E r =
    MatchResult r (λ x. P) (λ f. (e : ValidationError) × (f ≡ Unverified clause e) × (P → ⊥) × E e)

-- a check of both, where both are there: Ok exactly where P holds of them, and else with an error of E
abbrev pub ChecksBoth : {A B : Type 0} → (A → B → Type 0) → (A → B → ValidationError → Type 0) → Option A → Option B
    → Result (Unit {0}) ValidationError → Type 0
ChecksBoth P E a b = ChecksBy (WhereBoth P a b) (λ e. HasBoth (λ x y. E x y e) a b)

-- the same that this clause asks for
abbrev pub HoldsBoth : {A B : Type 0} → Clause → (A → B → Type 0) → (A → B → ValidationError → Type 0) → Option A
    → Option B → Result (Unit {0}) Fault → Type 0
HoldsBoth clause P E a b = ChecksClause clause (WhereBoth P a b) (λ e. HasBoth (λ x y. E x y e) a b)

-- a check of one, where it is there
abbrev pub ChecksOne : {A : Type 0} → (A → Type 0) → (A → ValidationError → Type 0) → Option A
    → Result (Unit {0}) ValidationError → Type 0
ChecksOne P E a = ChecksBy (WhereSome P a) (λ e. HasSome (λ x. E x e) a)

-- the same that this clause asks for
abbrev pub HoldsOne : {A : Type 0} → Clause → (A → Type 0) → (A → ValidationError → Type 0) → Option A
    → Result (Unit {0}) Fault → Type 0
HoldsOne clause P E a = ChecksClause clause (WhereSome P a) (λ e. HasSome (λ x. E x e) a)

-- the fault of a check that this clause asks for, for which allocation may have failed
abbrev pub judged_by : Clause → Result (Unit {0}) ValidationError → Result (Unit {0}) Fault
judged_by clause (Ok x) = Ok x
judged_by clause (Err e) = if is_memory e then Err OutOfMemory else Err (Unverified clause e)

-- this is the fault: of P, which doesn't hold, W says what is wrong; or allocation failed
abbrev pub IsFaultOf : Type 0 → Wrong → Fault → Type 0
IsFaultOf P W f =
    (f ≡ OutOfMemory)
    ⊎ ((clause : Clause) × (e : ValidationError) × (f ≡ Unverified clause e) × (P → ⊥) × W clause e)

-- a check of clauses: Ok only where P holds; else the clause that is broken first, or allocation failed
abbrev pub Judges : Type 0 → Wrong → Result (Unit {0}) Fault → Type 0
Judges P W r = MatchResult r (λ x. P) (IsFaultOf P W)
