use Rattle.std.proofs.Common.{◌∙◌, ap, map, subst, string_bytes}
use Rattle.rpkicert.specs.Request.{Asked, with_files}
use Rattle.rpkicert.specs.RequestView.{asked_of}
use Rattle.rpkicert.specs.Run.{IsRunOf}
use Rattle.rpkicert.proofs.UnderLaws.{below}
use Rattle.rpkicert.proofs.runs.show_under.Goals as goal

pub returns-clause-shown : goal.returns-clause-shown
returns-clause-shown g c = λ k asked.
    let names = map string_bytes c.in_ok-names.names.items in
    let files = ap (map (λ text. text.now)) c.as_slice-2.ensures.value ∙ c.in_ok-files.ensures
    ∙ ap (map string_bytes) c.as_slice.ensures.value in
    let same = c.with_files-named.ensures ∙ ap (with_files (asked_of c.args.request.now)) files in
    let holds = g.S.Sources.holds c.args.sources.now in
    let clock = g.S.Sources.clock c.args.sources.now in
    let old = g.M.Machine.world c.args.machine.now in
    let new = g.M.Machine.world c.show_all.new.machine in
    below (g.S.Sources.lists c.args.sources.now) holds clock old new c.show_all.result
    (asked_of c.args.request.now) names asked c.in_ok-names.ensures
    (subst (λ (a : Asked). IsRunOf holds clock old new c.show_all.result a) same (c.show_all.ensures.run k))
