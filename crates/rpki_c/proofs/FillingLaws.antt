-- The entries in the middle of an index that is being written: which are there, and which are still to come.
use Rattle.std.proofs.Common.{◌≡◌, ◌≢◌, ℕ, zero, suc, ◌+◌, ◌-◌, ◌<◌, ◌≤◌, ◌^◌, Bool, true, false, List, [], ◌∷◌, ◌++◌}
use Rattle.std.proofs.Common.{length, take, drop, inl, inr, ◌%◌, Option, Some, None, refl, sym, ap, ◌∙◌, subst, arith}
use Rattle.std.proofs.Common.{append_assoc, append-nil, length-append, length-drop}
use Rattle.std.specs.List.{between}
use Rattle.std.specs.Prelude.{◌⊎◌, slice_get, set, map}
use Rattle.std.proofs.Math.Seq.{drop-append_seam}
use Rattle.std.proofs.lemmas.Option.{slice_get_within}
use Rattle.std.proofs.lemmas.List.{set_at, take_all, take_at, drop-drop, length-map, map-append}
use Rattle.rpki_der.specs.declared.tag.Header.{Header}
use Rattle.rpki_der.specs.TagName.{TagName}
use Rattle.rpki_der.specs.Header.{tlv}
use Rattle.rpki_der.specs.Reading.{Spells, Accepts}
use Rattle.rpki_der.specs.Values.{SpellsHeader}
use Rattle.rpki_der.specs.Members.{Members, Empty, Primitive, Constructed, spell, HaveHeaders, header_count}
use Rattle.rpki_der.specs.Members.{SpellsValue}
use Rattle.rpki_der.specs.Walk.{CountsHeaders}
use Rattle.rpki_der.specs.Index.{Entry as IndexEntry, entries, IsIndex}
use Rattle.rpki_der.proofs.HeaderReadingLaws.{one-header}
use Rattle.rpki_der.proofs.IndexingLaws.{length-entries}
use Rattle.rpki_der.proofs.MembersLaws.{header, HasHeader, header_of, spells-header, two-octets}
use Rattle.rpki_c.specs.declared.index.Entry.{Entry}
use Rattle.rpki_c.specs.Front.{Climbs, Closes, parent_number, passed, slot_at}

-- ---- the entries that are still to come

-- where the header after that of an entry begins, and the number of the entry of the value that it follows or begins
abbrev pub next_place : Bool → Entry → ℕ
next_place true e = e.contents
next_place false e = e.end

abbrev pub next_last : Bool → ℕ → Entry → ℕ
next_last true number e = number
next_last false number e = e.parent

-- At this place is the header of the next entry, in the innermost value that hasn't ended.
pub record IsNext (s : List ℕ) (es : List Entry) (place last : ℕ) (e : Entry) : Type 0 where
  pub found : Header
  pub size : ℕ
  pub rest : List ℕ
  pub spells : Spells SpellsHeader (between place (length s) s) found rest
  pub split : length (between place (length s) s) ≡ size + length rest
  pub fits : place + size + found.length ≤ length s
  pub closes : Closes es place last e.parent
  pub is : e ≡ slot_at place size found e.parent

-- The headers from this place on are those of these entries, after others.
abbrev pub Follow : List ℕ → List Entry → ℕ → ℕ → List Entry → Type 0
Follow s es place last [] = Unit {0}
Follow s es place last (e ∷ more) = IsNext s es place last e
    × Follow s (es ++ e ∷ []) (next_place e.constructed e) (next_last e.constructed (length es) e) more

-- the value of this entry, if any, ends there or after
abbrev pub EndsPast : List Entry → ℕ → Option ℕ → Type 0
EndsPast es end None = Unit {0}
EndsPast es end (Some number) = (e : Entry) × (slice_get es number ≡ Some e) × (end ≤ e.end)

get-more : {X : Type 0} (xs ys : List X) (q : ℕ) (x : X) → slice_get xs q ≡ Some x → slice_get (xs ++ ys) q ≡ Some x
get-more [] ys q x h = absurd (cc h)
get-more (y ∷ xs) ys zero x h = h
get-more (y ∷ xs) ys (suc q) x h = get-more xs ys q x h

get-last : {X : Type 0} (xs : List X) (x : X) → slice_get (xs ++ x ∷ []) (length xs) ≡ Some x
get-last [] x = refl
get-last (y ∷ xs) x = get-last xs x

past-more : (es more : List Entry) (end low : ℕ) (q : Option ℕ) → low ≤ end → EndsPast es end q
    → EndsPast (es ++ more) low q
past-more es more end low None l h = tt
past-more es more end low (Some k) l h = (h.0, get-more es more k h.0 h.1, omega (arith, l, h.2))

-- its number is below that of the next
below : (es : List Entry) (number end : ℕ) (q : Option ℕ) → number ≡ length es → EndsPast es end q
    → (parent_number q ≡ 2 ^ 64 - 1) ⊎ (parent_number q < number)
below es number end None count h = inl refl
below es number end (Some k) count h = inr (omega (arith, slice_get_within es k h.0 h.1))

-- no value around has ended where another begins
stays : (es : List Entry) (place end : ℕ) (q : Option ℕ) → place < end → EndsPast es end q
    → Closes es place (parent_number q) (parent_number q)
stays es place end None l h = record { ended = []; climbs = (refl, λ e low at same. omega (arith, low)) }
stays es place end (Some k) l h = record {
  ended = [];
  climbs = (
    refl,
    λ e low at same. let one : h.0 ≡ e = cc (h.1, at) in omega (arith, ap (λ (x : Entry). x.end) one, h.2, l),
  );
}

-- a value has ended: what follows is in the value around it
rises : (s : List ℕ) (es : List Entry) (place k : ℕ) (e : Entry) (more : List Entry) → slice_get es k ≡ Some e
    → e.end ≡ place → (e.parent ≡ 2 ^ 64 - 1) ⊎ (e.parent < k) → Follow s es place e.parent more
    → Follow s es place k more
rises s es place k e [] at end below h = tt
rises s es place k e (x ∷ more) at end below h =
    let n = h.0 in (
      record {
        found = n.found;
        size = n.size;
        rest = n.rest;
        spells = n.spells;
        split = n.split;
        fits = n.fits;
        closes = record { ended = e ∷ n.closes.ended; climbs = (at, end, below, n.closes.climbs) };
        is = n.is;
      },
      h.1,
    )

-- the rest after octets that are there
after : (s x y : List ℕ) (i j : ℕ) → drop i s ≡ x ++ y → j ≡ i + length x → drop j s ≡ y
after s x y i j e h =
    ap (λ (k : ℕ). drop k s) h ∙ sym (drop-drop (length x) i s) ∙ ap (λ (l : List ℕ). drop (length x) l) e
    ∙ drop-append_seam x y

-- the entries of values, in sequence
abbrev slots : Members → ℕ → Option ℕ → ℕ → List Entry
slots vs place q number = map passed (entries vs place q number)

-- the header of the value that is next
next : (s x : List ℕ) (es : List Entry) (place end : ℕ) (q : Option ℕ) (t : TagName) (f : Bool) (c : List ℕ)
    → HasHeader t (length c) → drop place s ≡ tlv t f c ++ x → place + length (tlv t f c) ≤ end → EndsPast es end q
    → IsNext s es place (parent_number q)
    (slot_at place (length (header t f (length c))) (header_of t f (length c)) (parent_number q))
next s x es place end q t f c legal is low past =
    let h : List ℕ = header t f (length c) in
    let b : List ℕ = between place (length s) s in
    let whole : b ≡ drop place s = take_all (length s - place) (drop place s) (omega (arith, length-drop place s)) in
    let is : b ≡ h ++ (c ++ x) = whole ∙ is ∙ append_assoc h c x in
    let size = ap length is ∙ length-append h (c ++ x) in
    let two = two-octets t f (length c) in
    record {
      found = header_of t f (length c);
      size = length h;
      rest = c ++ x;
      spells = spells-header t f (length c) (c ++ x) b legal is;
      split = size;
      fits = omega (arith, size, ap length whole, length-append c x, length-drop place s, two);
      closes = stays es place end q (omega (arith, low, length-append h c, two)) past;
      is = refl;
    }

-- What follows values follows their entries.
follow-values : (s : List ℕ) (vs : Members) (es more : List Entry) (place end number : ℕ) (q : Option ℕ) (x : List ℕ)
    → HaveHeaders vs → drop place s ≡ spell vs ++ x → number ≡ length es → end ≡ place + length (spell vs)
    → EndsPast es end q → Follow s (es ++ slots vs place q number) end (parent_number q) more
    → Follow s es place (parent_number q) (slots vs place q number ++ more)
follow-values s Empty es more place end number q x legal is count size past h =
    let e : end ≡ place = omega (arith, size) in
    subst (λ (l : List Entry). Follow s l place (parent_number q) more) (append-nil es)
    (subst (λ (i : ℕ). Follow s (es ++ []) i (parent_number q) more) e h)
follow-values s (Primitive t c vs) es more place end number q x legal is count size past h =
    let one : List ℕ = tlv t false c in
    let parts : drop place s ≡ one ++ (spell vs ++ x) = is ∙ append_assoc one (spell vs) x in
    let lengths = length-append one (spell vs) in
    let head = length-append (header t false (length c)) c in
    let k : ℕ = length (header t false (length c)) in
    let past_one : ℕ = place + k + length c in
    let e : Entry = slot_at place k (header_of t false (length c)) (parent_number q) in (
      next s (spell vs ++ x) es place end q t false c legal.0 parts (omega (arith, size, lengths)) past,
      follow-values s vs (es ++ e ∷ []) more past_one end (number + 1) q x legal.1
          (after s one (spell vs ++ x) place past_one parts (omega (arith, head)))
          (omega (arith, count, length-append es (e ∷ []))) (omega (arith, size, lengths, head))
          (past-more es (e ∷ []) end end q (omega arith) past)
          (subst (λ (l : List Entry). Follow s l end (parent_number q) more)
          (sym (append_assoc es (e ∷ []) (slots vs past_one q (number + 1)))) h),
    )
follow-values s (Constructed t ms vs) es more place end number q x legal is count size past h =
    let c : List ℕ = spell ms in
    let one : List ℕ = tlv t true c in
    let k : ℕ = length (header t true (length c)) in
    let parts : drop place s ≡ one ++ (spell vs ++ x) = is ∙ append_assoc one (spell vs) x in
    let inner_parts : drop place s ≡ header t true (length c) ++ (c ++ (spell vs ++ x)) =
    parts ∙ append_assoc (header t true (length c)) c (spell vs ++ x) in
    let lengths = length-append one (spell vs) in
    let head = length-append (header t true (length c)) c in
    let past_one : ℕ = place + k + length c in
    let e : Entry = slot_at place k (header_of t true (length c)) (parent_number q) in
    let inside : List IndexEntry = entries ms (place + k) (Some number) (number + 1) in
    let inner : List Entry = map passed inside in
    let here : List Entry = es ++ e ∷ [] in
    let counted : length inner ≡ header_count ms =
    length-map inside passed ∙ length-entries ms (place + k) (Some number) (number + 1) in
    let more_here = length-append es (e ∷ []) in
    let own : slice_get here number ≡ Some e = ap (λ (i : ℕ). slice_get here i) count ∙ get-last es e in
    let last = simp map-append at h in
    let around = past-more es (e ∷ inner) end end q (omega arith) past in
    let behind = follow-values s vs (here ++ inner) more past_one end (number + 1 + header_count ms) q x legal.2
    (after s one (spell vs ++ x) place past_one parts (omega (arith, head)))
    (omega (arith, count, more_here, counted, length-append here inner)) (omega (arith, size, lengths, head))
    (simp append_assoc around) (simp append_assoc last) in
    let outer : List Entry = slots vs past_one q (number + 1 + header_count ms) in
    let within = follow-values s ms here (outer ++ more) (place + k) past_one (number + 1) (Some number)
    (spell vs ++ x) legal.1
    (after s (header t true (length c)) (c ++ (spell vs ++ x)) place (place + k) inner_parts refl)
    (omega (arith, count, more_here)) refl (e, own, omega arith)
    (rises s (here ++ inner) past_one number e _ (get-more here inner number e own) refl
    (below es number end q count past) behind) in (
      next s (spell vs ++ x) es place end q t true c legal.0 parts (omega (arith, size, lengths)) past,
      simp (map-append, append_assoc)
          (subst (λ (i : ℕ). Follow s here (place + k) i (inner ++ (outer ++ more))) count within),
    )

-- ---- the innermost value that hasn't ended

pub climb-up : {es : List Entry} {place number q : ℕ} (e : Entry) → slice_get es number ≡ Some e → e.end ≡ place
    → number < 2 ^ 64 - 1 → Closes es place number q
    → ((e.parent ≡ 2 ^ 64 - 1) ⊎ (e.parent < number)) × Closes es place e.parent q
climb-up {es} {place} {number} {q} e at end low c = go c.ended c.climbs
  where
    go : (ended : List Entry) → Climbs es place number ended q
        → ((e.parent ≡ 2 ^ 64 - 1) ⊎ (e.parent < number)) × Closes es place e.parent q
    go [] k = absurd (k.1 e low at end)
    go (f ∷ ended) k =
        let same : f ≡ e = cc (k.0, at) in
        subst (λ (x : Entry). ((x.parent ≡ 2 ^ 64 - 1) ⊎ (x.parent < number)) × Closes es place x.parent q) same
        (k.2, record { ended = ended; climbs = k.3 })

pub climb-stay : {es : List Entry} {place number q : ℕ}
    → ((e : Entry) → slice_get es number ≡ Some e → e.end ≢ place) → Closes es place number q → number ≡ q
climb-stay {es} {place} {number} {q} other c = go c.ended c.climbs
  where
    go : (ended : List Entry) → Climbs es place number ended q → number ≡ q
    go [] k = k.0
    go (e ∷ ended) k = absurd (other e k.0 k.1)

-- SIZE_MAX, which names none, comes last
pub falls : (p n : ℕ) → n < 2 ^ 64 - 1 → (p ≡ 2 ^ 64 - 1) ⊎ (p < n) → (p + 1) % 2 ^ 64 < (n + 1) % 2 ^ 64
falls p n low (inl h) = omega arith
falls p n low (inr h) = omega arith

abbrev pub blank : Entry
blank =
    record { start = 0; contents = 0; end = 0; parent = 0; number = 0; tag_class = 0; constructed = false }

-- ---- the array, in which the entries are

-- These many entries are written, and the others follow at this place.
pub record IsFilling (s : List ℕ) (count : ℕ) (old now : List Entry) (place number last : ℕ) : Type 0 where
  pub index : List IndexEntry
  pub is : IsIndex s index
  pub counted : length index ≡ count
  pub done : List Entry
  pub more : List Entry
  pub all : map passed index ≡ done ++ more
  pub size : length done ≡ number
  pub written : now ≡ done ++ drop number old
  pub follow : Follow s done place last more

pub filling-none : {s : List ℕ} {old : List Entry} (index : List IndexEntry) (count : ℕ) → IsIndex s index
    → length index ≡ count → IsFilling s count old old 0 0 (2 ^ 64 - 1)
filling-none {s} {old} index count x counted = record {
  index = index;
  is = x;
  counted = counted;
  done = [];
  more = map passed index;
  all = refl;
  size = refl;
  written = refl;
  follow = subst (Follow s [] 0 (2 ^ 64 - 1)) (append-nil (slots x.members 0 None 0) ∙ ap (map passed) (sym x.is))
      (follow-values s x.members [] [] 0 (length (spell x.members)) 0 None [] x.legal
      (x.spelled ∙ sym (append-nil (spell x.members))) refl (omega arith) tt tt);
}

-- ---- one more entry

some-drop : {X : Type 0} (n : ℕ) (xs : List X) → n < length xs → (x : X) × (drop n xs ≡ x ∷ drop (suc n) xs)
some-drop n [] l = absurd (omega (arith, l))
some-drop zero (x ∷ xs) l = (x, refl)
some-drop (suc n) (x ∷ xs) l = some-drop n xs (omega (arith, l))

pub set-behind : {X : Type 0} (xs old : List X) (n : ℕ) (y : X) → length xs ≡ n → n < length old
    → set (xs ++ drop n old) n y ≡ (xs ++ y ∷ []) ++ drop (n + 1) old
set-behind {X} xs old n y size room =
    let d = some-drop n old room in
    let next : suc n ≡ n + 1 = omega arith in
    ap (λ (l : List X). set (xs ++ l) n y) d.1
    ∙ ap (λ (m : ℕ). set (xs ++ d.0 ∷ drop m old) n y) next
    ∙ set_at xs d.0 (drop (n + 1) old) y n size
    ∙ sym (append_assoc xs (y ∷ []) (drop (n + 1) old))

-- the next entry, and what is to come after it
pub record HasNext (s : List ℕ) (count : ℕ) (old now : List Entry) (place number last : ℕ) : Type 0 where
  pub entry : Entry
  pub is : IsNext s (take number now) place last entry
  pub low : number < length old → (left : List Entry) → left ≡ set now number entry
      → IsFilling s count old left (next_place entry.constructed entry) (number + 1)
      (next_last entry.constructed number entry)

pub has-next : {s : List ℕ} {count place number last : ℕ} {old now : List Entry}
    → IsFilling s count old now place number last → number < count → HasNext s count old now place number last
has-next {s} {count} {place} {number} {last} {old} {now} f low = go f.more f.all f.follow
  where
    front : f.done ≡ take number now
    front = sym (ap (take number) f.written ∙ take_at f.done (drop number old) number f.size)

    go : (more : List Entry) → map passed f.index ≡ f.done ++ more → Follow s f.done place last more
        → HasNext s count old now place number last
    go [] all h = absurd (omega (
      arith,
      ap length all,
      length-map f.index passed,
      f.counted,
      f.size,
      length-append f.done [],
    ))
    go (e ∷ more) all h = record {
      entry = e;
      is = subst (λ (l : List Entry). IsNext s l place last e) front h.0;
      low = λ room left is. record {
        index = f.index;
        is = f.is;
        counted = f.counted;
        done = f.done ++ e ∷ [];
        more = more;
        all = all ∙ sym (append_assoc f.done (e ∷ []) more);
        size = omega (arith, length-append f.done (e ∷ []), f.size);
        written = is ∙ ap (λ (l : List Entry). set l number e) f.written
            ∙ set-behind f.done old number e f.size room;
        follow = subst (λ (i : ℕ). Follow s (f.done ++ e ∷ []) (next_place e.constructed e)
            (next_last e.constructed i e) more) f.size h.1;
      };
    }

-- the header of the next entry is read, and the entry is written
pub record IsStep (s : List ℕ) (count : ℕ) (old left : List Entry) (place number parent : ℕ) (h : Header) (k : ℕ)
    : Type 0 where
  pub fits : place + k + h.length ≤ length s
  pub primitive : h.constructed ≡ false → IsFilling s count old left (place + k + h.length) (number + 1) parent
  pub constructed : h.constructed ≡ true → IsFilling s count old left (place + k) (number + 1) number

pub step : {s : List ℕ} {count place number last q : ℕ} {old now left : List Entry} {h : Header} (k : ℕ)
    (n : HasNext s count old now place number last) → number < length old
    → Accepts SpellsHeader (between place (length s) s) h (drop k (between place (length s) s))
    → k ≤ length (between place (length s) s) → q ≡ n.entry.parent
    → left ≡ set now number (slot_at place k h q) → IsStep s count old left place number q h k
step {s} {count} {place} {number} {last} {q} {old} {now} {left} {h} k n room a within parent is =
    let b : List ℕ = between place (length s) s in
    let one = one-header b n.is.found h n.is.rest (drop k b) n.is.spells a.spells in
    let size : n.is.size ≡ k = omega (arith, n.is.split, ap length one.1, length-drop k b) in
    let e : Entry = slot_at place k h q in
    let same : n.entry ≡ e =
    n.is.is ∙ ap (λ (x : Header). slot_at place n.is.size x n.entry.parent) one.0
    ∙ ap (λ (x : ℕ). slot_at place x h n.entry.parent) size ∙ ap (λ (x : ℕ). slot_at place k h x) (sym parent) in
    let Left : Bool → Type 0 =
    λ b. IsFilling s count old left (next_place b e) (number + 1) (next_last b number e) in
    let next : Left h.constructed =
    subst (λ (x : Entry). left ≡ set now number x
    → IsFilling s count old left (next_place x.constructed x) (number + 1) (next_last x.constructed number x)) same
    (n.low room left) is in
    record {
      fits = omega (arith, n.is.fits, size, ap (λ (x : Header). x.length) one.0);
      primitive = λ form. subst Left form next;
      constructed = λ form. subst Left form next;
    }

-- ---- the value at the front

-- its index has an entry for each header
pub front-index : (s : List ℕ) (n m count : ℕ) → Accepts SpellsValue s (take n s) (drop n s)
    → CountsHeaders s (drop n s) m → m ≡ count
    → (index : List IndexEntry) × IsIndex (take n s) index × (length index ≡ count)
front-index s n m count a c same =
    let v = c.headers.0 in
    let is : c.value ≡ take n s = (a.only c.value (drop n s)
    (record { front = c.value; parts = c.parts; spelled = record { same = refl; value = v } })).0 in
    let index : List IndexEntry = entries v.members 0 None 0 in (
      index,
      record { members = v.members; legal = v.legal; spelled = sym is ∙ v.spelled; is = refl },
      length-entries v.members 0 None 0 ∙ c.headers.1 ∙ same,
    )
