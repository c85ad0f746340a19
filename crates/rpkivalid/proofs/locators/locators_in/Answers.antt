use Rattle.std.proofs.Common.{◌≡◌, ◌+◌, ◌<◌, ◌≤◌, ℕ, List, [], Bor, length, arith, map, ap, drop}
use Rattle.std.proofs.lemmas.List.{drop-map, drop_all, length-map}
use Rattle.rpki_der.proofs.TriedLaws.{tried-error}
use Rattle.rpkivalid.specs.LocatorsView.{named_of}
use Rattle.rpkivalid.proofs.DenyingLaws.{first-denial, from-step}
use Rattle.rpkivalid.proofs.LocatorLaws.{located-end, located-first}
use Rattle.rpkivalid.proofs.locators.locators_in.Goals as goal

-- what is read past the last file
abbrev slot : Bor (List ℕ)
slot = record { ref_ptr = (0, 0); now = [] }

-- the name of a file
abbrev now : Bor (List ℕ) → List ℕ
now file = file.now

pub loop-at-preserved : goal.loop-at-preserved
loop-at-preserved g c =
    let files = c.args.files.now in
    let i = c.loop-at.at in
    let lt : i < length files = omega arith in
    let long : i < length (map now files) = rw (length-map files now) lt in
    let adds = rw c.split_at.ensures.back at c.in_ok-add_first.ensures.ok in (
      located-first (g.S.Sources.holds c.args.sources.now) (map now files) now files i slot
          c.loop-at.all.items _ lt adds c.loop-at.invariant.0,
      from-step (map now files) (g.S.Sources.holds c.args.sources.now) i (map now (drop i files))
          (map now (drop (i + 1) files)) c.loop-at.all.items _ (drop-map now i files) (drop-map now (i + 1) files)
          adds c.loop-at.invariant.1 long,
    )

pub returns-clause-ok : goal.returns-clause-ok
returns-clause-ok g c =
    let files = c.args.files.now in
    let le : length files ≤ c.loop-at.at = omega arith in
    let none : map now (drop c.loop-at.at files) ≡ [] = ap (map now) (drop_all c.loop-at.at files le) in
    located-end (g.S.Sources.holds c.args.sources.now) (map now files) (map now (drop c.loop-at.at files))
    (map named_of c.loop-at.all.items) (ap length none) c.loop-at.invariant.0

pub returns-in_err-add_first-clause-err : goal.returns-in_err-add_first-clause-err
returns-in_err-add_first-clause-err g c =
    let files = c.args.files.now in
    tried-error _ _ _ c.from_residual.ensures
    (first-denial (map now files) (g.S.Sources.holds c.args.sources.now) c.loop-at.at
    (map now (drop c.loop-at.at files)) _ c.loop-at.all.items (drop-map now c.loop-at.at files)
    (rw c.split_at.ensures.back at c.in_err-add_first.ensures.err) c.loop-at.invariant.1)
