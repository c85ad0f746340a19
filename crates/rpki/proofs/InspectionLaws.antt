-- What an inspection of a name finds, attribute by attribute.
use Rattle.std.proofs.Common.{suc, zero, lit<, if◌then◌else◌, ◌<◌, length, get_or, ◌≡◌, ◌≢◌, ℕ, ◌+◌, ◌≤◌, Bool, true}
use Rattle.std.proofs.Common.{false, List, [], ◌∷◌, ◌++◌, cond, nat_eq, inl, inr, IsTrue, ◌↔◌, refl}
use Rattle.std.proofs.Common.{sym, ap, subst, ◌∙◌, arith, append_assoc, append-nil}
use Rattle.std.specs.List.{All}
use Rattle.std.specs.Cmp.Lexicographic.{pointwise, pointwise_decides}
use Rattle.std.proofs.lemmas.Bool.Decides.{Decides-eqb}
use Rattle.std.proofs.lemmas.List.Elements.{All-append, All-nil, All-cons, All-contains, Contains-push}
use Rattle.std.proofs.lemmas.List.Elements.{Contains-append_left}
use Rattle.std.proofs.lemmas.List.Sums.{sum_by-append}
use Rattle.std.proofs.lemmas.List.{get_or-set_other}
use Rattle.std.proofs.lemmas.Grind.{get_or-set_at}
use Rattle.std.proofs.Math.ListN.{set}
use Rattle.std.proofs.lemmas.Grind.{flat_map-append}
use Rattle.rpki_der.specs.declared.error.DecodeError.{DecodeError}
use Rattle.rpki_der.specs.Prelude.{TagName, sequence, Spells, Accepts, Refuses, Refusal, SpellsContents}
use Rattle.rpki_der.specs.Prelude.{SpellsLeaf, IsContentsFault, IsLeafFault, IsOuterFault}
use Rattle.rpki_der.proofs.ReadingLaws.{unless-memory}
use Rattle.rpki_der.proofs.LeavesLaws.{leaf-value, leaf-no-memory, contents-no-memory}
use Rattle.rpki_der.proofs.ComposedLaws.{all-read, nothing-whole, spelled-whole}
use Rattle.rpki.specs.Oids.{common_name}
use Rattle.rpki.specs.Name.{Attribute, IsIdentifierThen, SpellsAttribute, SpellsEach}
use Rattle.rpki.specs.NameTable.{Row, row_at, HasRow, name_table}
use Rattle.rpki.specs.StrictName.{has_identifier, count_of, IsPermitted, IsStrict, attributes}
use Rattle.rpki.specs.Findings.{IsFound}
use Rattle.rpki.specs.NameRule.{BreaksAt, FirstBreaks, BreaksRule}
use Rattle.rpki.proofs.NameTableLaws.{Distinct}
use Rattle.rpki.specs.declared.repository.x509.name.rule.NameRule.{NameRule}
use Rattle.rpki.specs.declared.repository.x509.name.rule.NameRule.TheVariants.{MissingCommonName, OtherString}
use Rattle.rpki.specs.declared.repository.x509.name.rule.NameRule.TheVariants.{OtherAttribute}
use Rattle.rpki.proofs.NameLaws.{attribute-identified}

-- whether the whole is in the grammar, from what a reader of a beginning returned
pub whole-read : {V : Type 0} (G : V → List ℕ → Type 0) (s r : List ℕ) (v : V) (b : Bool) → Accepts G s v r
    → IsTrue b ↔ (r ≡ []) → IsTrue b ↔ ((w : V) × G w s)
whole-read {V} G s r v b a h =
    (λ e. (v, (all-read G s v r a (h.0 e)).0), λ g. h.1 (sym (a.only g.0 [] (spelled-whole G s g.0 g.1)).1))

pub whole-unread : {V : Type 0} (t : TagName) (f : Bool) (C : V → List ℕ → Type 0) (s r : List ℕ) (e : DecodeError)
    → Refusal (SpellsLeaf t f C) (IsLeafFault t f C) s r e → IsTrue false ↔ ((w : V) × SpellsLeaf t f C w s)
whole-unread {V} t f C s r e h =
    let none : Refuses (SpellsLeaf t f C) s = unless-memory e (leaf-no-memory t f C s e h.kind) h.refuses in
    (λ z. absurd (let w = z in cc), λ g. absurd (nothing-whole (SpellsLeaf t f C) s none g.0 g.1))

-- ---- how many attributes have an identifier

same-octets : (xs ys : List ℕ) → pointwise nat_eq xs ys ≡ true → xs ≡ ys
same-octets xs ys e = (pointwise_decides Decides-eqb xs ys).0 e

count-append : (o : List ℕ) (xs ys : List Attribute) → count_of o (xs ++ ys) ≡ count_of o xs + count_of o ys
count-append o xs ys = sum_by-append (λ a. cond (has_identifier o a) 1 0) xs ys

count-one : (o : List ℕ) (a : Attribute) → count_of o (a ∷ []) ≡ cond (has_identifier o a) 1 0
count-one o a = omega arith

unnamed : (o : List ℕ) (a : Attribute) → (a.identifier ≡ o → ⊥) → has_identifier o a ≡ false
unnamed o a differs = of (has_identifier o a) refl
  where
    of : (b : Bool) → has_identifier o a ≡ b → has_identifier o a ≡ false
    of true e = absurd (differs (same-octets a.identifier o e))
    of false e = e

all-one : (P : Attribute → Type 0) (a : Attribute) → P a → All P (a ∷ [])
all-one P a h = All-cons P a [] h (All-nil P)

-- an attribute that the table permits, the first of its row
pub found-more : (T : List Row) (S : List ℕ → Type 0) (x : List Bool) (before : List Attribute) (a : Attribute) (n : ℕ)
    → Distinct T → IsFound T S x before → n < length x
    → HasRow T n a.identifier → get_or x n false ≡ false → S a.value
    → IsFound T S (set x n true) (before ++ a ∷ [])
found-more T S x before a n distinct f inside h first string = record {
  counted = λ k below. count-append (row_at T k).identifier before (a ∷ []) ∙ omega
      (arith, f.counted k below, count-one (row_at T k).identifier a, step k below);
  permitted = All-append (IsPermitted T S) before (a ∷ []) f.permitted
      (all-one (IsPermitted T S) a (record { number = n; has = h; string = string }));
} where
  step : (k : ℕ) → k < length T
      → cond (get_or (set x n true) k false) 1 0 ≡ cond (get_or x k false) 1 0 + cond
      (has_identifier (row_at T k).identifier a) 1 0
  step k below = at (nat_eq k n) refl
    where
      at : (b : Bool) → nat_eq k n ≡ b
          → cond (get_or (set x n true) k false) 1 0 ≡ cond (get_or x k false) 1 0 + cond
          (has_identifier (row_at T k).identifier a) 1 0
      at true e =
          let same : k ≡ n = (Decides-eqb k n).0 e in
          let is : has_identifier (row_at T k).identifier a ≡ true =
          (pointwise_decides Decides-eqb a.identifier (row_at T k).identifier).1
          (sym (subst (λ (m : ℕ). (row_at T m).identifier ≡ a.identifier) (sym same) h.same)) in
          rw (is, get_or-set_at x n k true false same inside, same, first) refl
      at false e =
          let other : k ≢ n = λ z. let y = (Decides-eqb k n).1 z in cc in
          let not : has_identifier (row_at T k).identifier a ≡ false = unnamed (row_at T k).identifier a
          (λ z. other (distinct k n below h.below (sym z ∙ sym h.same))) in
          rw (not, get_or-set_other x n k true false other) (omega arith)

-- ---- an attribute that breaks a rule after those that were found

count-with : (o : List ℕ) (before rest : List Attribute) (a : Attribute)
    → count_of o ((before ++ a ∷ []) ++ rest) ≡ (count_of o before + cond (has_identifier o a) 1 0) + count_of o rest
count-with o before rest a =
    count-append o (before ++ a ∷ []) rest ∙ ap (λ (n : ℕ). n + count_of o rest)
    (count-append o before (a ∷ []) ∙ ap (λ (n : ℕ). count_of o before + n) (count-one o a))

all-with : (P : Attribute → Type 0) (before rest : List Attribute) (a : Attribute) → All P ((before ++ a ∷ []) ++ rest)
    → P a
all-with P before rest a h = All-contains P ((before ++ a ∷ []) ++ rest) a h
    (Contains-append_left (before ++ a ∷ []) rest a (Contains-push before a))

-- of one of these there are two
two-of : (o : List ℕ) (before rest : List Attribute) (a : Attribute) → count_of o before ≡ 1 → has_identifier o a ≡ true
    → count_of o ((before ++ a ∷ []) ++ rest) ≤ 1 → ⊥
two-of o before rest a seen is strict =
    let again : ◌≡◌ {A = ℕ} (cond (has_identifier o a) 1 0) 1 = rw is refl in
    omega (arith, count-with o before rest a, seen, again, strict)

-- the attribute is the last
breaks-last : (T : List Row) (S : List ℕ → Type 0) (rule : NameRule) (x : List Bool) (before : List Attribute)
    (a : Attribute) → IsFound T S x before
    → BreaksAt T S rule before a → FirstBreaks T S rule (before ++ a ∷ [])
breaks-last T S rule x before a f broken = record {
  before = before;
  attribute = a;
  after = [];
  parts = sym (append-nil (before ++ a ∷ []));
  fine = (x, f);
  broken =
      broken;
}

-- how many of its row there were
seen-before : (T : List Row) (S : List ℕ → Type 0) (x : List Bool) (before : List Attribute) (a : Attribute) (n : ℕ)
    (b : Bool) → IsFound T S x before
    → HasRow T n a.identifier → get_or x n false ≡ b
    → count_of a.identifier before ≡ cond b 1 0
seen-before T S x before a n b f h e =
    subst (λ (o : List ℕ). count_of o before ≡ cond b 1 0) h.same
    (f.counted n h.below ∙ ap (λ (c : Bool). cond c 1 0) e)

pub second-attribute : (T : List Row) (S : List ℕ → Type 0) (rule : NameRule) (x : List Bool) (before : List Attribute)
    (a : Attribute) (n : ℕ)
    → IsFound T S x before → HasRow T n a.identifier → get_or x n false ≡ true
    → rule ≡ (row_at T n).second → FirstBreaks T S rule (before ++ a ∷ [])
second-attribute T S rule x before a n f h one is =
    breaks-last T S rule x before a f (inl
    (record { number = n; has = h; rule_is = is; seen = seen-before T S x before a n true f h one }))

pub other-string : (T : List Row) (S : List ℕ → Type 0) (x : List Bool) (before : List Attribute) (a : Attribute)
    (n : ℕ)
    → IsFound T S x before → HasRow T n a.identifier → get_or x n false ≡ false
    → (S a.value → ⊥) → FirstBreaks T S OtherString (before ++ a ∷ [])
other-string T S x before a n f h first none =
    breaks-last T S OtherString x before a f
    (inr (inl
    (record {
      number = n;
      has = h;
      rule_is = refl;
      first = seen-before T S x before a n false f h first;
      other =
          none;
    })))

pub other-attribute : (T : List Row) (S : List ℕ → Type 0) (x : List Bool) (before : List Attribute) (a : Attribute)
    → IsFound T S x before → ((n : ℕ) → HasRow T n a.identifier → ⊥) → FirstBreaks T S OtherAttribute (before ++ a ∷ [])
other-attribute T S x before a f none =
    breaks-last T S OtherAttribute x before a f (inr (inr (record { rule_is = refl; none = none })))

-- ---- what is broken is not strict

breaks-not : (T : List Row) (S : List ℕ → Type 0) (rule : NameRule) (before rest : List Attribute) (a : Attribute)
    → Distinct T → BreaksAt T S rule before a → IsStrict T S ((before ++ a ∷ []) ++ rest) → ⊥
breaks-not T S rule before rest a distinct (inl h) strict =
    two-of a.identifier before rest a h.seen ((pointwise_decides Decides-eqb a.identifier a.identifier).1 refl)
    (subst (λ (o : List ℕ). count_of o ((before ++ a ∷ []) ++ rest) ≤ 1) h.has.same
    (strict.once h.number h.has.below))
breaks-not T S rule before rest a distinct (inr (inl h)) strict =
    h.other (all-with (IsPermitted T S) before rest a strict.permitted).string
breaks-not T S rule before rest a distinct (inr (inr h)) strict =
    let k = all-with (IsPermitted T S) before rest a strict.permitted in h.none k.number k.has

first-not : (T : List Row) (S : List ℕ → Type 0) (rule : NameRule) (xs : List Attribute) → Distinct T
    → FirstBreaks T S rule xs → IsStrict T S xs → ⊥
first-not T S rule xs distinct h strict =
    breaks-not T S rule h.before h.after h.attribute distinct h.broken (subst (IsStrict T S) h.parts strict)

pub rule-not : (T : List Row) (S : List ℕ → Type 0) (rule : NameRule) (xs : List Attribute) → Distinct T
    → BreaksRule T S rule xs → IsStrict T S xs → ⊥
rule-not T S rule xs distinct (inl h) strict = first-not T S rule xs distinct h strict
rule-not T S rule xs distinct (inr h) strict = let none = h.1.1 in omega (arith, none, strict.common)

-- and stays so, whatever follows
more-after : (T : List Row) (S : List ℕ → Type 0) (rule : NameRule) (xs ys : List Attribute) → FirstBreaks T S rule xs
    → FirstBreaks T S rule (xs ++ ys)
more-after T S rule xs ys h = record {
  before = h.before;
  attribute = h.attribute;
  after = h.after ++ ys;
  parts = ap (λ (l : List Attribute). l ++ ys) h.parts ∙ append_assoc (h.before ++ h.attribute ∷ []) h.after ys;
  fine = h.fine;
  broken = h.broken;
}

-- ---- a list of values, each of which stands for attributes

pub record IsJoin {V : Type 0} (join : List V → List Attribute) : Type 0 where
  pub none : join [] ≡ []
  pub more : (xs ys : List V) → join (xs ++ ys) ≡ join xs ++ join ys

pub join-attributes : IsJoin {V = Attribute} (λ xs. xs)
join-attributes = record { none = refl; more = λ xs ys. refl }

pub join-relatives : IsJoin attributes
join-relatives = record { none = refl; more = flat_map-append (λ x. x) }

pub one-relative : (xs : List Attribute) → attributes (xs ∷ []) ≡ xs
one-relative xs = append-nil xs

-- of the values that were spelled, those in which y was found, and those that m spells
pub record Middle {V : Type 0} (G : V → List ℕ → Type 0) (join : List V → List Attribute) (T : List Row)
    (S : List ℕ → Type 0) (x y : List Bool) (vs : List V) (m : List ℕ) : Type 0 where
  pub done : List V
  pub todo : List V
  pub split : vs ≡ done ++ todo
  pub following : SpellsEach G todo m
  pub found : (before : List Attribute) → IsFound T S x before → IsFound T S y (before ++ join done)

abbrev pub Through : {V : Type 0} → (V → List ℕ → Type 0) → (List V → List Attribute) → List Row → (List ℕ → Type 0)
    → List Bool → List Bool → List ℕ → List ℕ → Type 0
Through {V} G join T S x y c m = (vs : List V) → SpellsEach G vs c → Middle G join T S x y vs m

pub through-nothing : {V : Type 0} (G : V → List ℕ → Type 0) (join : List V → List Attribute) (T : List Row)
    (S : List ℕ → Type 0) (x : List Bool) (c : List ℕ) → IsJoin join → Through G join T S x x c c
through-nothing G join T S x c j vs h = record {
  done = [];
  todo = vs;
  split = refl;
  following = h;
  found = λ before f. subst (IsFound T S x) (sym (ap (λ (l : List Attribute). before ++ l) j.none ∙ append-nil before))
      f;
}

pub through-more : {V : Type 0} (G : V → List ℕ → Type 0) (join : List V → List Attribute) (T : List Row)
    (S : List ℕ → Type 0) (x y z : List Bool) (c m r : List ℕ) → IsJoin join → (m ≡ [] → ⊥) → Through G join T S x y c m
    → ((v : V) (q : List ℕ) → Spells G m v q → (q ≡ r) ×
    ((before : List Attribute) → IsFound T S y before → IsFound T S z (before ++ join (v ∷ []))))
    → Through G join T S x z c r
through-more {V} G join T S x y z c m r j some t step vs h =
    let g = t vs h in next g.done g.todo g.split g.following g.found
  where
    next : (done todo : List V) → vs ≡ done ++ todo → SpellsEach G todo m
        → ((before : List Attribute) → IsFound T S x before → IsFound T S y (before ++ join done))
        → Middle G join T S x z vs r
    next done [] split following found = absurd (some following)
    next done (v ∷ ws) split following found =
        let k = step v following.0 following.1 in
        record {
          done = done ++ v ∷ [];
          todo = ws;
          split = split ∙ sym (append_assoc done (v ∷ []) ws);
          following = subst (SpellsEach G ws) k.0 following.2;
          found = λ before f.
              subst (IsFound T S z) (append_assoc before (join done) (join (v ∷ [])) ∙ ap
              (λ (l : List Attribute). before ++ l) (sym (j.more done (v ∷ []))))
              (k.1 (before ++ join done) (found before f));
        }

regroup : (a b d e : List Attribute) → a ++ (b ++ (d ++ e)) ≡ ((a ++ b) ++ d) ++ e
regroup a b d e = simp append_assoc

pub through-refused : {V : Type 0} (G : V → List ℕ → Type 0) (join : List V → List Attribute) (T : List Row)
    (S : List ℕ → Type 0) (rule : NameRule) (x y : List Bool) (c m : List ℕ) → IsJoin join → (m ≡ [] → ⊥)
    → Through G join T S x y c m
    → ((v : V) (q : List ℕ) → Spells G m v q → (before : List Attribute) → IsFound T S y before → FirstBreaks T S rule
    (before ++ join (v ∷ [])))
    → (vs : List V) → SpellsEach G vs c → (before : List Attribute) → IsFound T S x before
    → FirstBreaks T S rule (before ++ join vs)
through-refused {V} G join T S rule x y c m j some t refused vs h before f =
    let g = t vs h in next g.done g.todo g.split g.following (g.found before f)
  where
    next : (done todo : List V) → vs ≡ done ++ todo → SpellsEach G todo m → IsFound T S y (before ++ join done)
        → FirstBreaks T S rule (before ++ join vs)
    next done [] split following found = absurd (some following)
    next done (v ∷ ws) split following found =
        let joined : join vs ≡ join done ++ (join (v ∷ []) ++ join ws) = ap join split ∙ j.more done (v ∷ ws) ∙ ap
        (λ (l : List Attribute). join done ++ l) (j.more (v ∷ []) ws) in
        subst (FirstBreaks T S rule) (sym
        (ap (λ (l : List Attribute). before ++ l) joined ∙ regroup before (join done) (join (v ∷ [])) (join ws)))
        (more-after T S rule ((before ++ join done) ++ join (v ∷ [])) (join ws)
        (refused v following.0 following.1 (before ++ join done) found))

pub through-all : {V : Type 0} (G : V → List ℕ → Type 0) (join : List V → List Attribute) (T : List Row)
    (S : List ℕ → Type 0) (x y : List Bool) (c m : List ℕ) → ((v : V) (q : List ℕ) → Spells G m v q → ⊥)
    → Through G join T S x y c m
    → (vs : List V) → SpellsEach G vs c → (before : List Attribute) → IsFound T S x before
    → IsFound T S y (before ++ join vs)
through-all {V} G join T S x y c m nowhere t vs h before f =
    let g = t vs h in next g.done g.todo g.split g.following (g.found before f)
  where
    next : (done todo : List V) → vs ≡ done ++ todo → SpellsEach G todo m → IsFound T S y (before ++ join done)
        → IsFound T S y (before ++ join vs)
    next done [] split following found =
        subst (λ (l : List V). IsFound T S y (before ++ join l)) (sym (split ∙ append-nil done)) found
    next done (v ∷ ws) split following found = absurd (nowhere v following.0 following.1)

-- ---- an attribute at the front

pub no-attribute : (m r : List ℕ) (e : DecodeError)
    → Refusal (SpellsLeaf sequence true IsIdentifierThen) (IsOuterFault sequence true) m r e
    → (v : Attribute) (q : List ℕ) → Spells SpellsAttribute m v q → ⊥
no-attribute m r e h v q g = unless-memory e h.kind.other h.refuses v q (attribute-identified m v q g)

pub this-attribute : (m r : List ℕ) (a : Attribute) → Accepts (SpellsLeaf sequence true IsIdentifierThen) m a r
    → (v : Attribute) (q : List ℕ) → Spells SpellsAttribute m v q → (q ≡ r) × (v ≡ a)
this-attribute m r a h v q g = let k = h.only v q (attribute-identified m v q g) in (k.1, k.0)

-- ---- a value at the front, whose contents were found

pub no-contents : {V : Type 0} (t : TagName) (C : V → List ℕ → Type 0) (m r : List ℕ) (e : DecodeError)
    → Refusal (SpellsContents t true) (IsContentsFault t true) m r e → (v : V) (q : List ℕ)
    → Spells (SpellsLeaf t true C) m v q → ⊥
no-contents t C m r e h v q g =
    let l = leaf-value t true C m v q g in
    unless-memory e (contents-no-memory t true m e h.kind) h.refuses l.0 q l.1

pub these-contents : {V : Type 0} (t : TagName) (C : V → List ℕ → Type 0) (m r c : List ℕ)
    → Accepts (SpellsContents t true) m c r → (v : V) (q : List ℕ) → Spells (SpellsLeaf t true C) m v q
    → (q ≡ r) × C v c
these-contents t C m r c h v q g =
    let l = leaf-value t true C m v q g in
    let k = h.only l.0 q l.1 in
    (k.1, subst (C v) k.0 l.2)

-- ---- the whole name

-- of no attribute one was found
pub record AreUnseen (x : List Bool) : Type 0 where
  pub unseen : (n : ℕ) → get_or x n false ≡ false

-- whether one was found of some
unfoldable pub has_seen : List Bool → Bool
has_seen [] = false
has_seen (b ∷ rest) = if b then true else has_seen rest

seen-later : (b c : Bool) → (if b then true else c) ≡ false → (b ≡ false) × (c ≡ false)
seen-later true c h = absurd (cc)
seen-later false c h = (refl, h)

not-seen : (x : List Bool) → has_seen x ≡ false → (n : ℕ) → get_or x n false ≡ false
unfolding has_seen
not-seen [] h n = refl
not-seen (b ∷ rest) h zero = (seen-later b (has_seen rest) h).0
not-seen (b ∷ rest) h (suc n) = not-seen rest (seen-later b (has_seen rest) h).1 n

pub unseen : (x : List Bool) → has_seen x ≡ false → AreUnseen x
unseen x h = record { unseen = not-seen x h }

pub first-is-common : HasRow name_table 0 common_name
first-is-common = record { below = lit< tt; same = refl }

pub nothing-found : (T : List Row) (S : List ℕ → Type 0) (x : List Bool) → AreUnseen x → IsFound T S x []
nothing-found T S x none =
    record { counted = λ n below. rw (none.unseen n) refl; permitted = All-nil (IsPermitted T S) }

pub first-rule : (T : List Row) (S : List ℕ → Type 0) (rule : NameRule) (x : List Bool) (xs : List Attribute)
    → AreUnseen x → ((before : List Attribute) → IsFound T S x before → FirstBreaks T S rule (before ++ xs))
    → BreaksRule T S rule xs
first-rule T S rule x xs none h = inl (h [] (nothing-found T S x none))

-- whether there is a common name, by the flag of its row
common-seen : (T : List Row) (S : List ℕ → Type 0) (x : List Bool) (xs : List Attribute) (n : ℕ) (b : Bool)
    → IsFound T S x xs → HasRow T n common_name → get_or x n false ≡ b → count_of common_name xs ≡ cond b 1 0
common-seen T S x xs n b f h e =
    subst (λ (o : List ℕ). count_of o xs ≡ cond b 1 0) h.same (f.counted n h.below ∙ ap (λ (c : Bool). cond c 1 0) e)

pub found-nameless : (T : List Row) (S : List ℕ → Type 0) (x : List Bool) (xs : List Attribute) (n : ℕ)
    → IsFound T S x xs
    → HasRow T n common_name → get_or x n false ≡ false → BreaksRule T S MissingCommonName xs
found-nameless T S x xs n f h none = inr (refl, ((x, f), common-seen T S x xs n false f h none))

at-most-one : (b : Bool) → cond b 1 0 ≤ 1
at-most-one true = omega arith
at-most-one false = omega arith

pub found-strict : (T : List Row) (S : List ℕ → Type 0) (x : List Bool) (xs : List Attribute) (n : ℕ) → IsFound T S x xs
    → HasRow T n common_name → get_or x n false ≡ true → IsStrict T S xs
found-strict T S x xs n f h one = record {
  common = common-seen T S x xs n true f h one;
  once = λ k below. omega (arith, f.counted k below, at-most-one (get_or x k false));
  permitted = f.permitted;
}
