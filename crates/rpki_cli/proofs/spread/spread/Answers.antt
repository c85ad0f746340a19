use Rattle.std.proofs.Common.{◌∙◌, ap, map, string_bytes}
use Rattle.std.proofs.lemmas.List.{map-append, nil_from_length}
use Rattle.rpki_cli.proofs.SpreadLaws.{known-end, known-next}
use Rattle.rpki_cli.proofs.spread.spread.Goals as goal

pub words-preserved : goal.words-preserved
words-preserved g c =
    let word = string_bytes c.in-Some.word.now in
    known-next (g.F.Folders.listed c.args.folders.now) c.args.ending.now c.args.option.now
    (map string_bytes c.args.words.now) c.words.behind c.is_value-value.result c.goes_on-behind.result word
    (map string_bytes c.words.rest.now) (map string_bytes c.in-Some.following.now)
    (map string_bytes c.words.all.items) (map string_bytes c.in_ok-own.own.items)
    (map string_bytes c.append.new.self.items)
    (ap (map string_bytes) c.in-Some.ensures.cases.0) c.is_value-value.ensures c.goes_on-behind.ensures
    (rw c.as_str.ensures.value at c.in_ok-own.ensures)
    (ap (map string_bytes) c.in_ok-append.ensures.items
    ∙ map-append string_bytes c.words.all.items c.in_ok-own.own.items) c.words.invariant

pub returns : goal.returns
returns g c =
    known-end (g.F.Folders.listed c.args.folders.now) c.args.ending.now c.args.option.now
    (map string_bytes c.args.words.now) c.words.behind (map string_bytes c.words.rest.now)
    (map string_bytes c.words.all.items)
    (ap (map string_bytes) (nil_from_length c.words.rest.now c.in_default.ensures.cases)) c.words.invariant
