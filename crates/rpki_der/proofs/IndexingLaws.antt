-- The entries in the middle of a walk: which are there, and which are still to come.
use Rattle.std.proofs.Common.{◌≡◌, ℕ, zero, suc, ◌+◌, ◌-◌, ◌≤◌, Bool, true, false, not, List, [], ◌∷◌, ◌++◌, length}
use Rattle.std.proofs.Common.{take, drop, reverse, Option, Some, None, refl, sym, ap, ◌∙◌, subst, arith, append_assoc}
use Rattle.std.proofs.Common.{append-nil, length-append, take_at}
use Rattle.std.specs.List.{between}
use Rattle.std.specs.Prelude.{slice_get}
use Rattle.std.proofs.lemmas.Option.{slice_get-get_or}
use Rattle.std.proofs.lemmas.List.{reverse-append}
use Rattle.rpki_der.specs.declared.error.DecodeError.{DecodeError}
use Rattle.rpki_der.specs.TagName.{TagName}
use Rattle.rpki_der.specs.Header.{tlv}
use Rattle.rpki_der.specs.Members.{Members, Empty, Primitive, Constructed, spell, HaveHeaders, header_count, IsValueOf}
use Rattle.rpki_der.specs.declared.tag.Header.{Header}
use Rattle.rpki_der.specs.Reading.{Spells}
use Rattle.rpki_der.specs.Values.{SpellsHeader}
use Rattle.rpki_der.specs.NestedFault.{IsNestedFault}
use Rattle.rpki_der.specs.Walk.{TakesMemory}
use Rattle.rpki_der.specs.Index.{Entry, entry, entries}
use Rattle.rpki_der.specs.IndexParts.{IsListed, IsEnd, noted, name_of}
use Rattle.rpki_der.proofs.MembersLaws.{header, HasHeader}
use Rattle.rpki_der.proofs.WalkingLaws.{BeginsWithHeader, HasFrontAt, HasFirst, AreMembers, Open, Innermost, front-at}
use Rattle.rpki_der.proofs.WalkingLaws.{first-value, length-part, open-first, open-end, open-primitive}
use Rattle.rpki_der.proofs.WalkingLaws.{open-constructed, open-fault, top, at-false, at-true, has-value}
use Rattle.rpki_der.proofs.WalkingLaws.{has-constructed}

-- ---- entries

-- one entry for each header
pub length-entries : (vs : Members) (at : ℕ) (parent : Option ℕ) (n : ℕ)
    → length (entries vs at parent n) ≡ header_count vs
length-entries Empty at parent n = refl
length-entries (Primitive t c rest) at parent n =
    omega (arith, length-entries rest (at + length (header t false (length c)) + length c) parent (n + 1))
length-entries (Constructed t ms rest) at parent n =
    let contents : ℕ = at + length (header t true (length (spell ms))) in
    let inner : List Entry = entries ms contents (Some n) (n + 1) in
    let outer : List Entry = entries rest (contents + length (spell ms)) parent (n + 1 + header_count ms) in
    omega (
      arith,
      length-entries ms contents (Some n) (n + 1),
      length-entries rest (contents + length (spell ms)) parent
          (n + 1 + header_count ms),
      length-append inner outer,
    )

-- the entry as the code makes it
abbrev pub made : ℕ → ℕ → ℕ → TagName → Bool → Option ℕ → Entry
made at k n t f parent =
    record { place = at; contents = at + k; past = at + k + n; tag = t; constructed = f; parent = parent }

made-is : (at k n : ℕ) (t : TagName) (f : Bool) (c : List ℕ) (parent : Option ℕ) → k ≡ length (header t f (length c))
    → n ≡ length c → entry at parent t f c ≡ made at k n t f parent
made-is at k n t f c parent h l =
    sym (ap (λ (x : ℕ). made at x n t f parent) h ∙ ap
    (λ (x : ℕ). made at (length (header t f (length c))) x t f parent) l)

-- the entry of a header that begins octets
pub made-here : {s : List ℕ} {t : TagName} {f : Bool} {n k : ℕ} {e : Entry} (at : ℕ) (parent : Option ℕ)
    → BeginsWithHeader s t f n k → e ≡ made at (length (header t f n)) n t f parent → e ≡ made at k n t f parent
made-here {t = t} {f = f} {n = n} at parent h is = is ∙ ap (λ (x : ℕ). made at x n t f parent) (sym h.size)

-- ---- the entries of open values

-- entries stay where they are
get-more : {X : Type 0} (xs ys : List X) (q : ℕ) (x : X) → slice_get xs q ≡ Some x → slice_get (xs ++ ys) q ≡ Some x
get-more [] ys q x h = absurd (cc h)
get-more (y ∷ xs) ys zero x h = h
get-more (y ∷ xs) ys (suc q) x h = get-more xs ys q x h

get-last : {X : Type 0} (xs : List X) (x : X) → slice_get (xs ++ x ∷ []) (length xs) ≡ Some x
get-last [] x = refl
get-last (y ∷ xs) x = get-last xs x

-- The values with these names, innermost first, end there.
abbrev pub Holds : Bool → ℕ → List Entry → List ℕ → List ℕ → Type 0
Holds keep b es [] [] = Unit {0}
Holds keep b es [] (e ∷ ends) = ⊥
Holds keep b es (q ∷ qs) [] = ⊥
Holds keep b es (q ∷ qs) (e ∷ ends) = IsEnd keep b es q e × Holds keep b es qs ends

end-more : (keep : Bool) (b : ℕ) (es more : List Entry) (q e : ℕ) → IsEnd keep b es q e → IsEnd keep b (es ++ more) q e
end-more true b es more q e h = record { found = h.found; is = get-more es more q h.found h.is; past = h.past }
end-more false b es more q e h = h

holds-more : (keep : Bool) (b : ℕ) (es more : List Entry) (qs ends : List ℕ) → Holds keep b es qs ends
    → Holds keep b (es ++ more) qs ends
holds-more keep b es more [] [] h = tt
holds-more keep b es more [] (e ∷ ends) h = h
holds-more keep b es more (q ∷ qs) [] h = h
holds-more keep b es more (q ∷ qs) (e ∷ ends) h =
    (end-more keep b es more q e h.0, holds-more keep b es more qs ends h.1)

-- the end of a value that is noted
end-noted : (keep : Bool) (b : ℕ) (es : List Entry) (x : Entry) (e : ℕ) → x.past ≡ b + e
    → IsEnd keep b (es ++ noted keep x) (name_of keep (length es) e) e
end-noted true b es x e past = record { found = x; is = get-last es x; past = past }
end-noted false b es x e past = refl

one-end : (keep : Bool) (b : ℕ) (es : List Entry) (q e e' : ℕ) → IsEnd keep b es q e → IsEnd keep b es q e' → e ≡ e'
one-end true b es q e e' h h' =
    let same : h.found ≡ h'.found = cc (h.is, h'.is) in
    omega (arith, h.past, h'.past, ap (λ (y : Entry). y.past) same)
one-end false b es q e e' h h' = sym h ∙ h'

-- ---- the entries to come

-- Whatever values remain in the open ones, whose names and ends are given, innermost first: with their entries those
-- of one value have been added.
abbrev pub Listed : ℕ → List Entry → List ℕ → List ℕ → List ℕ → ℕ → List Entry → Type 0
Listed b old s [] [] place es = IsListed b old (take place s) es
Listed b old s [] (e ∷ ends) place es = ⊥
Listed b old s (q ∷ qs) [] place es = ⊥
Listed b old s (q ∷ qs) (e ∷ ends) place es = (vs : Members) → AreMembers (between place e s) vs → Listed b old s qs
    ends e (es ++ entries vs (b + place) (Some q) (length es))

-- the same, where entries are kept
abbrev pub ListedWhere : Bool → ℕ → List Entry → List ℕ → List ℕ → List ℕ → ℕ → List Entry → Type 0
ListedWhere keep b old s qs ends place es = keep ≡ true → Listed b old s qs ends place es

-- the innermost value ends
listed-end : (b : ℕ) (old : List Entry) (s : List ℕ) (q : ℕ) (qs : List ℕ) (place : ℕ) (ends : List ℕ) (es : List Entry)
    → Listed b old s (q ∷ qs) (place ∷ ends) place es → Listed b old s qs ends place es
listed-end b old s q qs place ends es h =
    let empty : place - place ≡ 0 = omega arith in
    let none : between place place s ≡ [] = ap (λ (x : ℕ). take x (drop place s)) empty in
    subst (λ (x : List Entry). Listed b old s qs ends place x) (append-nil es)
    (h Empty (record { legal = tt; is = none }))

-- one more value has been read in it, with its entries
listed-read : (b : ℕ) (old : List Entry) (s : List ℕ) (q : ℕ) (qs : List ℕ) (e : ℕ) (ends : List ℕ) (place place' : ℕ)
    (es new : List Entry) (x : List ℕ) (one : Members → Members)
    → between place e s ≡ x ++ between place' e s
    → ((ws : Members) → HaveHeaders ws → HaveHeaders (one ws)) → ((ws : Members) → spell (one ws) ≡ x ++ spell ws)
    → ((ws : Members) → entries (one ws) (b + place) (Some q) (length es) ≡ new ++ entries ws (b + place') (Some q)
    (length (es ++ new)))
    → Listed b old s (q ∷ qs) (e ∷ ends) place es → Listed b old s (q ∷ qs) (e ∷ ends) place' (es ++ new)
listed-read b old s q qs e ends place place' es new x one parts legal spelled listed h = λ vs st.
    let more : List Entry = entries vs (b + place') (Some q) (length (es ++ new)) in
    let all : es ++ entries (one vs) (b + place) (Some q) (length es) ≡ (es ++ new) ++ more = ap
    (λ (y : List Entry). es ++ y) (listed vs) ∙ sym (append_assoc es new more) in
    subst (λ (y : List Entry). Listed b old s qs ends e y) all (h (one vs) (record {
      legal = legal vs st.legal;
      is = parts ∙ ap (λ (y : List ℕ). x ++ y) st.is ∙ sym (spelled vs);
    }))

listed-primitive : (b : ℕ) (old : List Entry) (s : List ℕ) (q : ℕ) (qs : List ℕ) (e : ℕ) (ends : List ℕ) (place : ℕ)
    (es : List Entry) (t : TagName) (k n : ℕ) → HasFrontAt s place e t false k n
    → Listed b old s (q ∷ qs) (e ∷ ends) place es
    → Listed b old s (q ∷ qs) (e ∷ ends) (place + k + n) (es ++ made (b + place) k n t false (Some q) ∷ [])
listed-primitive b old s q qs e ends place es t k n p h =
    let c : List ℕ = between (place + k) (place + k + n) s in
    let m : Entry = made (b + place) k n t false (Some q) in
    let same : entry (b + place) (Some q) t false c ≡ m = made-is (b + place) k n t false c (Some q) p.header_size
    p.contents_size in
    let next : length es + 1 ≡ length (es ++ m ∷ []) = omega (arith, length-append es (m ∷ [])) in
    let sum : b + place + k + n ≡ b + (place + k + n) = omega arith in
    listed-read b old s q qs e ends place (place + k + n) es (m ∷ []) (tlv t false c) (λ ws. Primitive t c ws) p.is
    (λ ws l. (p.legal, l)) (λ ws. refl)
    (λ ws. ap (λ (x : Entry). x ∷ entries ws x.past (Some q) (length es + 1)) same
    ∙ ap (λ (x : ℕ). m ∷ entries ws (b + place + k + n) (Some q) x) next
    ∙ ap (λ (x : ℕ). m ∷ entries ws x (Some q) (length (es ++ m ∷ []))) sum) h

listed-constructed : (b : ℕ) (old : List Entry) (s : List ℕ) (q : ℕ) (qs : List ℕ) (e : ℕ) (ends : List ℕ) (place : ℕ)
    (es : List Entry) (t : TagName) (k n : ℕ) → HasFrontAt s place e t true k n
    → Listed b old s (q ∷ qs) (e ∷ ends) place es
    → Listed b old s (length es ∷ q ∷ qs) ((place + k + n) ∷ e ∷ ends) (place + k)
    (es ++ made (b + place) k n t true (Some q) ∷ [])
listed-constructed b old s q qs e ends place es t k n p h = λ vs st.
    let after : List ℕ = between (place + k + n) e s in
    let m : Entry = made (b + place) k n t true (Some q) in
    let parts : between place e s ≡ tlv t true (spell vs) ++ after = p.is ∙ ap (λ (x : List ℕ). tlv t true x ++ after)
    st.is in
    let legal : HasHeader t (length (spell vs)) = subst (λ (x : List ℕ). HasHeader t (length x)) st.is p.legal in
    let header_size : k ≡ length (header t true (length (spell vs))) = p.header_size ∙ ap
    (λ (x : List ℕ). length (header t true (length x))) st.is in
    let contents_size : n ≡ length (spell vs) = p.contents_size ∙ ap (λ (x : List ℕ). length x) st.is in
    let same : entry (b + place) (Some q) t true (spell vs) ≡ m = made-is (b + place) k n t true (spell vs) (Some q)
    header_size contents_size in
    let next : length es + 1 ≡ length (es ++ m ∷ []) = omega (arith, length-append es (m ∷ [])) in
    let low : b + place + k ≡ b + (place + k) = omega arith in
    let sum : b + place + k + n ≡ b + (place + k + n) = omega arith in
    let within : List Entry = entries vs (b + place + k) (Some (length es)) (length es + 1) in
    let size : length es + 1 + header_count vs ≡ length (es ++ m ∷ within) = omega
    (arith, length-append es (m ∷ within), length-entries vs (b + place + k) (Some (length es)) (length es + 1)) in
    let all : es ++ m ∷ within ≡ (es ++ m ∷ []) ++ entries vs (b + (place + k)) (Some (length es))
    (length (es ++ m ∷ [])) =
    sym (append_assoc es (m ∷ []) within)
    ∙ ap (λ (x : ℕ). (es ++ m ∷ []) ++ entries vs (b + place + k) (Some (length es)) x) next
    ∙ ap (λ (x : ℕ). (es ++ m ∷ []) ++ entries vs x (Some (length es)) (length (es ++ m ∷ []))) low in
    subst (λ (x : List Entry). Listed b old s (q ∷ qs) (e ∷ ends) (place + k + n) x) all
    (listed-read b old s q qs e ends place (place + k + n) es (m ∷ within) (tlv t true (spell vs))
    (λ ws. Constructed t vs ws) parts (λ ws l. (legal, st.legal, l)) (λ ws. refl)
    (λ ws. ap
    (λ (x : Entry). x ∷ (entries vs x.contents (Some (length es)) (length es + 1) ++ entries ws x.past (Some q)
    (length es + 1 + header_count vs))) same
    ∙ ap (λ (x : ℕ). m ∷ (within ++ entries ws (b + place + k + n) (Some q) x)) size
    ∙ ap (λ (x : ℕ). m ∷ (within ++ entries ws x (Some q) (length (es ++ m ∷ within)))) sum) h)

-- ---- the first value

listed-first-primitive : (b : ℕ) (old : List Entry) (s : List ℕ) (t : TagName) (k n : ℕ)
    → k ≡ length (header t false (length (between k (k + n) s))) → n ≡ length (between k (k + n) s)
    → HasFirst s t false k n
    → IsListed b old (take (k + n) s) (old ++ made b k n t false None ∷ [])
listed-first-primitive b old s t k n header_size contents_size p =
    let c : List ℕ = between k (k + n) s in
    record {
      members = Primitive t c Empty;
      legal = (p.legal, tt);
      spelled = p.taken ∙ sym (append-nil (tlv t false c));
      counted = refl;
      is = ap (λ (x : Entry). old ++ x ∷ []) (sym (made-is b k n t false c None header_size contents_size));
    }

listed-first-constructed : (b : ℕ) (old : List Entry) (s : List ℕ) (t : TagName) (k n : ℕ)
    → k ≡ length (header t true (length (between k (k + n) s))) → n ≡ length (between k (k + n) s)
    → HasFirst s t true k n
    → Listed b old s (length old ∷ []) ((k + n) ∷ []) k (old ++ made b k n t true None ∷ [])
listed-first-constructed b old s t k n header_size contents_size p = λ vs st.
    let m : Entry = made b k n t true None in
    let size : k ≡ length (header t true (length (spell vs))) = header_size ∙ ap
    (λ (x : List ℕ). length (header t true (length x))) st.is in
    let width : n ≡ length (spell vs) = contents_size ∙ ap (λ (x : List ℕ). length x) st.is in
    let same : entry b None t true (spell vs) ≡ m = made-is b k n t true (spell vs) None size width in
    let next : length old + 1 ≡ length (old ++ m ∷ []) = omega (arith, length-append old (m ∷ [])) in
    let within : List Entry = entries vs (b + k) (Some (length old)) (length old + 1) in
    record {
      members = Constructed t vs Empty;
      legal = (subst (λ (x : List ℕ). HasHeader t (length x)) st.is p.legal, st.legal, tt);
      spelled = p.taken ∙ ap (λ (x : List ℕ). tlv t true x) st.is ∙ sym (append-nil (tlv t true (spell vs)));
      counted = refl;
      is =
          ap (λ (x : ℕ). (old ++ m ∷ []) ++ entries vs (b + k) (Some (length old)) x) (sym next)
          ∙ append_assoc old (m ∷ []) within
          ∙ ap (λ (x : List Entry). old ++ m ∷ x) (sym (append-nil within))
          ∙ ap (λ (x : Entry). old ++ x ∷ (entries vs x.contents (Some (length old)) (length old + 1) ++ []))
          (sym same);
    }

-- ---- the walk

-- In the middle of a value: the octets up to a place, with n headers, are read; the open values have these names,
-- outermost first, and these entries are there.
pub record IsWalking (keep : Bool) (b : ℕ) (old : List Entry) (s names : List ℕ) (es : List Entry) (place n : ℕ) : Type
    0 where
  pub ends : List ℕ
  pub held : Holds keep b es (reverse names) ends
  pub opened : Open s ends place n
  pub listed : ListedWhere keep b old s (reverse names) ends place es

-- the same, where the innermost value is the one with this name, and ends there
pub record IsInside (keep : Bool) (b : ℕ) (old : List Entry) (s names : List ℕ) (es : List Entry) (q e place n : ℕ) :
    Type 0 where
  pub ends : List ℕ
  pub here : IsEnd keep b es q e
  pub held : Holds keep b es (reverse (take (length names - 1) names)) ends
  pub opened : Open s (e ∷ ends) place n
  pub listed : ListedWhere keep b old s (q ∷ reverse (take (length names - 1) names)) (e ∷ ends) place es

-- the end of the innermost value, as the loop reads it
pub record ReadEnd (keep : Bool) (b : ℕ) (es : List Entry) (q e : ℕ) : Type 0 where
  pub is : IsEnd keep b es q e

some-inside : {keep : Bool} {b : ℕ} {old : List Entry} {s names : List ℕ} {es : List Entry} {q place n : ℕ}
    → Innermost names q → IsWalking keep b old s names es place n → (e : ℕ) × IsInside keep b old s names es q e place n
some-inside {keep} {b} {old} {s} {names} {es} {q} {place} {n} last w =
    let order : reverse names ≡ q ∷ reverse (take (length names - 1) names) = top names q last.last in
    go w.ends (subst (λ (x : List ℕ). Holds keep b es x w.ends) order w.held) w.opened
    (subst (λ (x : List ℕ). ListedWhere keep b old s x w.ends place es) order w.listed)
  where
    others : List ℕ
    others = reverse (take (length names - 1) names)

    go : (ends : List ℕ) → Holds keep b es (q ∷ others) ends → Open s ends place n
        → ListedWhere keep b old s (q ∷ others) ends place es → (e : ℕ) × IsInside keep b old s names es q e place n
    go [] h o l = absurd h
    go (e ∷ ends) h o l = (e, record { ends = ends; here = h.0; held = h.1; opened = o; listed = l })

pub inside : {keep : Bool} {b : ℕ} {old : List Entry} {s names : List ℕ} {es : List Entry} {q e place n : ℕ}
    → Innermost names q → ReadEnd keep b es q e → IsWalking keep b old s names es place n
    → IsInside keep b old s names es q e place n
inside {keep} {b} {old} {s} {names} {es} {q} {e} {place} {n} last r w =
    let i = some-inside last w in
    subst (λ (x : ℕ). IsInside keep b old s names es q x place n) (one-end keep b es q i.0 e i.1.here r.is) i.1

-- it has a fault
pub inside-fault : {keep : Bool} {b : ℕ} {old : List Entry} {s names : List ℕ} {es : List Entry} {q e place n : ℕ}
    {f : DecodeError} → IsInside keep b old s names es q e place n → IsNestedFault (between place e s) f
    → IsNestedFault s f
inside-fault {s = s} {e = e} {place = place} {n = n} {f = f} i h = open-fault s i.ends e place n f i.opened h

-- what is read in it fits
pub inside-fits : {keep : Bool} {b : ℕ} {old : List Entry} {s names : List ℕ} {es : List Entry} {q e place m : ℕ}
    {t : TagName} {f : Bool} {n k : ℕ} → IsInside keep b old s names es q e place m
    → BeginsWithHeader (between place e s) t f n k → k + n ≤ length (between place e s)
    → (place + k + n ≤ length s) × (2 ≤ k)
inside-fits {s = s} {e = e} {place = place} {t = t} {f = f} {n = n} {k = k} i h fits =
    let level = i.opened in
    let p = front-at s place e t f n k level.low level.high h fits in
    (omega (arith, p.fits, level.high), p.size)

-- it ends
pub inside-end : {keep : Bool} {b : ℕ} {old : List Entry} {s names : List ℕ} {es : List Entry} {q e place n : ℕ}
    (after : List ℕ) → IsInside keep b old s names es q e place n → place ≡ e
    → after ≡ take (length names - 1) names → IsWalking keep b old s after es place n
inside-end {keep} {b} {old} {s} {names} {es} {q} {e} {place} {n} after i same rest =
    let others : List ℕ = reverse (take (length names - 1) names) in
    let order : others ≡ reverse after = ap reverse (sym rest) in
    let opened : Open s i.ends place n = open-end s i.ends place n
    (subst (λ (x : ℕ). Open s (x ∷ i.ends) place n) (sym same) i.opened) in
    let listed : ListedWhere keep b old s others i.ends place es =
    λ k. listed-end b old s q others place i.ends es
    (subst (λ (x : ℕ). Listed b old s (q ∷ others) (x ∷ i.ends) place es) (sym same) (i.listed k)) in
    record {
      ends = i.ends;
      held = subst (λ (x : List ℕ). Holds keep b es x i.ends) order i.held;
      opened = opened;
      listed = subst (λ (x : List ℕ). ListedWhere keep b old s x i.ends place es) order listed;
    }

is-false : (f : Bool) → not f ≡ true → f ≡ false
is-false true h = absurd (cc h)
is-false false h = refl

is-true : (f : Bool) → not f ≡ false → f ≡ true
is-true true h = refl
is-true false h = absurd (cc h)

-- a primitive value in it is read
pub inside-primitive : {keep : Bool} {b : ℕ} {old : List Entry} {s names : List ℕ} {es : List Entry} {q e place m : ℕ}
    {t : TagName} {f : Bool} {n k : ℕ} (j : ℕ) (left : List Entry)
    → Innermost names q → IsInside keep b old s names es q e place m → not f ≡ true
    → BeginsWithHeader (between place e s) t f n k → k + n ≤ length (between place e s) → j ≡ m + 1
    → left ≡ es ++ noted keep (made (b + place) k n t f (Some q)) → IsWalking keep b old s names left (place + k + n) j
inside-primitive {keep} {b} {old} {s} {names} {es} {q} {e} {place} {m} {t} {f} {n} {k} j left last i form h fits one
    more =
    let others : List ℕ = reverse (take (length names - 1) names) in
    let order : q ∷ others ≡ reverse names = sym (top names q last.last) in
    let level = i.opened in
    let h' = at-false (between place e s) t f n k form h in
    let p = front-at s place e t false n k level.low level.high h' fits in
    let x : Entry = made (b + place) k n t f (Some q) in
    let read : Open s (e ∷ i.ends) (place + k + n) (m + 1) = open-primitive s i.ends e place m t n k i.opened h' fits in
    let held : Holds keep b (es ++ noted keep x) (q ∷ others) (e ∷ i.ends) = holds-more keep b es (noted keep x)
    (q ∷ others) (e ∷ i.ends) (i.here, i.held) in
    let listed : ListedWhere keep b old s (q ∷ others) (e ∷ i.ends) (place + k + n) left =
    λ kept.
    let all : left ≡ es ++ made (b + place) k n t false (Some q) ∷ [] = more ∙ ap (λ (y : Bool). es ++ noted y x) kept ∙
    ap (λ (y : Bool). es ++ made (b + place) k n t y (Some q) ∷ []) (is-false f form) in
    subst (λ (y : List Entry). Listed b old s (q ∷ others) (e ∷ i.ends) (place + k + n) y) (sym all)
    (listed-primitive b old s q others e i.ends place es t k n p (i.listed kept)) in
    record {
      ends = e ∷ i.ends;
      held = subst (λ (y : List ℕ). Holds keep b left y (e ∷ i.ends)) order
          (subst (λ (y : List Entry). Holds keep b y (q ∷ others) (e ∷ i.ends)) (sym more) held);
      opened = subst (λ (y : ℕ). Open s (e ∷ i.ends) (place + k + n) y) (sym one) read;
      listed = subst (λ (y : List ℕ). ListedWhere keep b old s y (e ∷ i.ends) (place + k + n) left) order listed;
    }

-- a constructed value in it is opened
pub inside-constructed : {keep : Bool} {b : ℕ} {old : List Entry} {s names : List ℕ} {es : List Entry} {q e place m : ℕ}
    {t : TagName} {f : Bool} {n k : ℕ} (j : ℕ) (name : ℕ) (after : List ℕ) (left : List Entry)
    → Innermost names q → IsInside keep b old s names es q e place m → not f ≡ false
    → BeginsWithHeader (between place e s) t f n k → k + n ≤ length (between place e s) → j ≡ m + 1
    → name ≡ name_of keep (length es) (place + k + n) → after ≡ names ++ name ∷ []
    → left ≡ es ++ noted keep (made (b + place) k n t f (Some q)) → IsWalking keep b old s after left (place + k) j
inside-constructed {keep} {b} {old} {s} {names} {es} {q} {e} {place} {m} {t} {f} {n} {k} j name after left last i form h
    fits one named still_open more =
    let others : List ℕ = reverse (take (length names - 1) names) in
    let ends : List ℕ = (place + k + n) ∷ e ∷ i.ends in
    let new : ℕ = name_of keep (length es) (place + k + n) in
    let order : new ∷ q ∷ others ≡ reverse after =
    sym (ap reverse still_open ∙ reverse-append names (name ∷ []) ∙ ap (λ (y : ℕ). y ∷ reverse names) named ∙ ap
    (λ (y : List ℕ). new ∷ y) (top names q last.last)) in
    let level = i.opened in
    let h' = at-true (between place e s) t f n k form h in
    let p = front-at s place e t true n k level.low level.high h' fits in
    let x : Entry = made (b + place) k n t true (Some q) in
    let all : left ≡ es ++ noted keep x = more ∙ ap (λ (y : Bool). es ++ noted keep (made (b + place) k n t y (Some q)))
    (is-true f form) in
    let sum : b + place + k + n ≡ b + (place + k + n) = omega arith in
    let held : Holds keep b (es ++ noted keep x) (new ∷ q ∷ others) ends = (
      end-noted keep b es x (place + k + n) sum,
      holds-more keep b es (noted keep x) (q ∷ others) (e ∷ i.ends)
          (i.here, i.held),
    ) in
    let read : Open s ends (place + k) (m + 1) = open-constructed s i.ends e place m t n k i.opened h' fits in
    let listed : ListedWhere keep b old s (new ∷ q ∷ others) ends (place + k) (es ++ noted keep x) =
    λ kept.
    let begun : Listed b old s (name_of true (length es) (place + k + n) ∷ q ∷ others) ends (place + k)
    (es ++ noted true x) = listed-constructed b old s q others e i.ends place es t k n p (i.listed kept) in
    subst (λ (y : Bool). Listed b old s (name_of y (length es) (place + k + n) ∷ q ∷ others) ends (place + k)
    (es ++ noted y x)) (sym kept) begun in
    record {
      ends = ends;
      held = subst (λ (y : List ℕ). Holds keep b left y ends) order
          (subst (λ (y : List Entry). Holds keep b y (new ∷ q ∷ others) ends) (sym all) held);
      opened = subst (λ (y : ℕ). Open s ends (place + k) y) (sym one) read;
      listed = subst (λ (y : List ℕ). ListedWhere keep b old s y ends (place + k) left) order
          (subst (λ (y : List Entry). ListedWhere keep b old s (new ∷ q ∷ others) ends (place + k) y) (sym all) listed);
    }

-- the sizes of the first value
pub record HasFirstSizes (s : List ℕ) (t : TagName) (f : Bool) (k n : ℕ) : Type 0 where
  pub first : HasFirst s t f k n
  pub header_size : k ≡ length (header t f (length (between k (k + n) s)))
  pub contents_size : n ≡ length (between k (k + n) s)

first-sizes : (s : List ℕ) (t : TagName) (f : Bool) (n k : ℕ) → BeginsWithHeader s t f n k → k + n ≤ length s
    → HasFirstSizes s t f k n
first-sizes s t f n k h fits =
    let width : n ≡ length (between k (k + n) s) = omega (arith, length-part s k (k + n) (omega arith) fits) in
    record {
      first = first-value s t f n k h fits;
      header_size = h.size ∙ ap (λ (x : ℕ). length (header t f x)) width;
      contents_size = width;
    }

-- the first value is primitive
pub start-listed : {keep : Bool} {b : ℕ} {old : List Entry} {s : List ℕ} {t : TagName} {f : Bool} {n k : ℕ}
    (left : List Entry) → not f ≡ true → BeginsWithHeader s t f n k → k + n ≤ length s
    → left ≡ old ++ noted keep (made b k n t f None) → keep ≡ true → IsListed b old (take (k + n) s) left
start-listed {keep} {b} {old} {s} {t} {f} {n} {k} left form h fits more kept =
    let p = first-sizes s t false n k (at-false s t f n k form h) fits in
    let all : left ≡ old ++ made b k n t false None ∷ [] = more ∙ ap
    (λ (y : Bool). old ++ noted y (made b k n t f None)) kept ∙ ap (λ (y : Bool). old ++ made b k n t y None ∷ [])
    (is-false f form) in
    subst (λ (y : List Entry). IsListed b old (take (k + n) s) y) (sym all)
    (listed-first-primitive b old s t k n p.header_size p.contents_size p.first)

-- the first value is opened
pub start-walking : {keep : Bool} {b : ℕ} {old : List Entry} {s : List ℕ} {t : TagName} {f : Bool} {n k : ℕ}
    (j name : ℕ) (after : List ℕ) (left : List Entry) → not f ≡ false → BeginsWithHeader s t f n k → k + n ≤ length s
    → j ≡ 1
    → name ≡ name_of keep (length old) (k + n) → after ≡ name ∷ [] → left ≡ old ++ noted keep (made b k n t f None)
    → IsWalking keep b old s after left k j
start-walking {keep} {b} {old} {s} {t} {f} {n} {k} j name after left form h fits one named is more =
    let h' = at-true s t f n k form h in
    let p = first-sizes s t true n k h' fits in
    let x : Entry = made b k n t true None in
    let ends : List ℕ = (k + n) ∷ [] in
    let new : ℕ = name_of keep (length old) (k + n) in
    let order : new ∷ [] ≡ reverse after = sym (ap reverse is ∙ ap (λ (y : ℕ). y ∷ []) named) in
    let all : left ≡ old ++ noted keep x = more ∙ ap (λ (y : Bool). old ++ noted keep (made b k n t y None))
    (is-true f form) in
    let sum : b + k + n ≡ b + (k + n) = omega arith in
    let held : Holds keep b (old ++ noted keep x) (new ∷ []) ends = (end-noted keep b old x (k + n) sum, tt) in
    let listed : ListedWhere keep b old s (new ∷ []) ends k (old ++ noted keep x) =
    λ kept.
    let begun : Listed b old s (name_of true (length old) (k + n) ∷ []) ends k (old ++ noted true x) =
    listed-first-constructed b old s t k n p.header_size p.contents_size p.first in
    subst (λ (y : Bool). Listed b old s (name_of y (length old) (k + n) ∷ []) ends k (old ++ noted y x)) (sym kept)
    begun in
    record {
      ends = ends;
      held = subst (λ (y : List ℕ). Holds keep b left y ends) order
          (subst (λ (y : List Entry). Holds keep b y (new ∷ []) ends) (sym all) held);
      opened = subst (λ (y : ℕ). Open s ends k y) (sym one) (open-first s t n k h' fits);
      listed = subst (λ (y : List ℕ). ListedWhere keep b old s y ends k left) order
          (subst (λ (y : List Entry). ListedWhere keep b old s (new ∷ []) ends k y) (sym all) listed);
    }

-- ---- the innermost open value, in a variable, and those around it

slice-last : {X : Type 0} (xs : List X) (x : X) → slice_get (xs ++ x ∷ []) (length (xs ++ x ∷ []) - 1) ≡ Some x
slice-last xs x =
    let n : length (xs ++ x ∷ []) - 1 ≡ length xs = omega (arith, length-append xs (x ∷ [])) in
    rw n (get-last xs x)

pub last-is : (names : List ℕ) (q : ℕ) → Innermost (names ++ q ∷ []) q
last-is names q = record { last = slice-last names q }

-- those around it
pub around : (names : List ℕ) (q : ℕ) → names ≡ take (length (names ++ q ∷ []) - 1) (names ++ q ∷ [])
around names q =
    let n : length (names ++ q ∷ []) - 1 ≡ length names = omega (arith, length-append names (q ∷ [])) in
    rw n (sym (take_at names (q ∷ []) (length names) refl))

-- no value is around it
pub none-around : (names : List ℕ) → length names ≡ 0 → slice_get names (length names - 1) ≡ None
none-around [] z = refl
none-around (x ∷ names) z = absurd (omega (arith, z))

-- the end of a value that was noted, and of one that was noted before
pub noted-end : {keep : Bool} {b : ℕ} {left : List Entry} {q e : ℕ} (es : List Entry) (x : Entry)
    → left ≡ es ++ noted keep x → q ≡ name_of keep (length es) e → x.past ≡ b + e → ReadEnd keep b left q e
noted-end {keep} {b} {left} {q} {e} es x more named past =
    record { is = rw (more, named) (end-noted keep b es x e past) }

pub kept-end : {keep : Bool} {b : ℕ} {es left : List Entry} {q e : ℕ} (x : Entry) → left ≡ es ++ noted keep x
    → ReadEnd keep b es q e → ReadEnd keep b left q e
kept-end {keep} {b} {es} {left} {q} {e} x more h = record { is = rw more (end-more keep b es (noted keep x) q e h.is) }

-- nothing is open any more
pub record IsDone (keep : Bool) (b : ℕ) (old : List Entry) (s : List ℕ) (es : List Entry) (place n : ℕ) : Type 0 where
  pub value : IsValueOf n (take place s)
  pub listed : keep ≡ true → IsListed b old (take place s) es

pub walking-done : {keep : Bool} {b : ℕ} {old : List Entry} {s names : List ℕ} {es : List Entry} {place n : ℕ}
    → slice_get names (length names - 1) ≡ None → IsWalking keep b old s names es place n
    → IsDone keep b old s es place n
walking-done {keep} {b} {old} {s} {names} {es} {place} {n} none w = go names none w.ends w.held w.opened w.listed
  where
    done : (ends : List ℕ) → Holds keep b es [] ends → Open s ends place n → ListedWhere keep b old s [] ends place es
        → IsDone keep b old s es place n
    done [] h o l = record { value = o; listed = l }
    done (e ∷ ends) h o l = absurd h

    go : (names : List ℕ) → slice_get names (length names - 1) ≡ None → (ends : List ℕ)
        → Holds keep b es (reverse names) ends → Open s ends place n
        → ListedWhere keep b old s (reverse names) ends place es → IsDone keep b old s es place n
    go [] z ends h o l = done ends h o l
    go (x ∷ xs) z ends h o l = absurd (cc (z, slice_get-get_or (x ∷ xs) (length (x ∷ xs) - 1) x (omega arith)))

-- ---- allocation failure

pub takes-memory-open : {s : List ℕ} {h : Header} (keep : Bool) (k : ℕ) → not h.constructed ≡ false
    → Spells SpellsHeader s h (drop k s) → k + h.length ≤ length s → TakesMemory keep s
takes-memory-open true k form sp fits = (true, has-constructed k form sp fits)
takes-memory-open false k form sp fits = has-constructed k form sp fits

pub takes-memory : {s : List ℕ} {h : Header} (keep : Bool) (k : ℕ) → keep ≡ true → Spells SpellsHeader s h (drop k s)
    → k + h.length ≤ length s → TakesMemory keep s
takes-memory {h = h} true k kept sp fits = (h.constructed, has-value k sp fits)
takes-memory false k kept sp fits = absurd (cc kept)
