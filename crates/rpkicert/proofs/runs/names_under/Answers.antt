use Rattle.std.proofs.Common.{◌∙◌, ◌<◌, ◌≤◌, ◌+◌, ℕ, List, [], length, get_or, map, take, ap, subst}
use Rattle.std.proofs.Common.{arith, Bor, string_bytes}
use Rattle.std.proofs.lemmas.List.{get_or_default, map-append, take_all}
use Rattle.rpkicert.specs.Under.{AreUnder}
use Rattle.rpkicert.proofs.RunLaws.{names-more}
use Rattle.rpkicert.proofs.UnderLaws.{one-more}
use Rattle.rpkicert.proofs.runs.names_under.Goals as goal

-- what is read past the last file
abbrev slot : Bor (List ℕ)
slot = record { ref_ptr = (0, 0); now = [] }

pub files-preserved : goal.files-preserved
files-preserved g c =
    let files = c.args.files.now in
    let i = c.files.file-index in
    let file = get_or files i slot in
    let lt : i < length files = omega arith in
    let more = names-more (λ file. file.now) files i file lt (get_or_default files i slot file lt) in
    let all = ap (map string_bytes) c.in_ok-append.ensures.items
    ∙ map-append string_bytes c.files.names.items c.in_ok-own.own.items in
    let lists = g.S.Sources.lists c.args.sources.now in
    one-more lists (map (λ file. file.now) (take i files)) (map string_bytes c.files.names.items) file.now
    (map string_bytes c.in_ok-own.own.items) (map (λ file. file.now) (take (i + 1) files))
    (map string_bytes c.append.new.self.items) c.files.invariant c.in_ok-own.ensures more all

pub returns : goal.returns
returns g c =
    let le : length c.args.files.now ≤ c.files.file-index = omega arith in
    subst (λ w. AreUnder (g.S.Sources.lists c.args.sources.now) (map (λ file. file.now) w)
    (map string_bytes c.files.names.items)) (take_all c.files.file-index c.args.files.now le) c.files.invariant
