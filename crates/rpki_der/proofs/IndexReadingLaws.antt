-- What an entry of an index says of the octets where it is.
use Rattle.std.proofs.Common.{◌≡◌, ℕ, ◌+◌, ◌-◌, ◌≤◌, List, ◌++◌, length, take, drop, refl, sym, ap, ◌∙◌, arith}
use Rattle.std.proofs.Common.{append_assoc, take-append-drop}
use Rattle.std.specs.Prelude.{slice_range}
use Rattle.rpki_der.specs.declared.tag.Header.{Header}
use Rattle.rpki_der.specs.Header.{header_octets}
use Rattle.rpki_der.specs.Index.{Entry, StandsAt}
use Rattle.rpki_der.specs.Reading.{Spells, Accepts}
use Rattle.rpki_der.specs.Values.{SpellsHeader}
use Rattle.rpki_der.proofs.CursorLaws.{front-of-cut, back-of-cut, length-cut}
use Rattle.rpki_der.proofs.HeaderReadingLaws.{one-header}

-- a part, in two parts
join-cut : (s : List ℕ) (i j e : ℕ) → i ≤ j → j ≤ e → slice_range s i e ≡ slice_range s i j ++ slice_range s j e
join-cut s i j e low high =
    let n = j - i in
    let at : i + n ≡ j = omega arith in
    let fits : i + n ≤ e = omega arith in
    let front : take n (slice_range s i e) ≡ slice_range s i j = sym (front-of-cut s i e n fits) ∙ ap
    (λ (x : ℕ). slice_range s i x) at in
    let back : drop n (slice_range s i e) ≡ slice_range s j e = sym (back-of-cut s i e n fits) ∙ ap
    (λ (x : ℕ). slice_range s x e) at in
    sym (take-append-drop n (slice_range s i e)) ∙ ap (λ (x : List ℕ). x ++ drop n (slice_range s i e)) front ∙ ap
    (λ (x : List ℕ). slice_range s i j ++ x) back

-- the header of an entry
abbrev pub header-in : Entry → Header
header-in e = record { tag = e.tag; constructed = e.constructed; length = e.past - e.contents }

-- where an entry is its header is read, whatever follows its contents
pub entry-read : (octets : List ℕ) (e : Entry) (start end : ℕ) → StandsAt octets e → e.place ≡ start → e.past ≤ end
    → end ≤ length octets
    → Accepts SpellsHeader (slice_range octets start end) (header-in e) (slice_range octets e.contents end)
entry-read octets e start end at same fits inside =
    let s : List ℕ = slice_range octets start end in
    let c : List ℕ = slice_range octets e.contents e.past in
    let rest : List ℕ = slice_range octets e.past end in
    let h : Header = header-in e in
    let low = at.low in
    let mid = at.mid in
    let size : length c ≡ e.past - e.contents = length-cut octets e.contents e.past mid at.high in
    let value : slice_range octets e.place e.past ≡ header_octets h ++ c =
    at.is ∙ ap (λ (n : ℕ). header_octets (record { tag = e.tag; constructed = e.constructed; length = n }) ++ c) size in
    let parts : s ≡ header_octets h ++ slice_range octets e.contents end =
    ap (λ (x : ℕ). slice_range octets x end) (sym same)
    ∙ join-cut octets e.place e.past end (omega arith) fits
    ∙ ap (λ (x : List ℕ). x ++ rest) value
    ∙ append_assoc (header_octets h) c rest
    ∙ ap (λ (x : List ℕ). header_octets h ++ x) (sym (join-cut octets e.contents e.past end mid fits)) in
    let there : Spells SpellsHeader s h (slice_range octets e.contents end) =
    record {
      front = header_octets h;
      parts = parts;
      spelled = record
          { legal = record { tag = at.tag; length = at.fits }; octets = refl };
    } in
    record { spells = there; only = λ w q k. one-header s w h q (slice_range octets e.contents end) k there }
