use Rattle.rpki_validation.specs.Rejecting.{AddsNote, IsPointNote, RejectsOf}
use Rattle.rpki_validation.proofs.RejectedLaws.{ok-always, ok-map, point-rejected}
use Rattle.rpki_validation.proofs.visit.visit.Goals as goal

pub returns-in-Ok-clause-origins : goal.returns-in-Ok-clause-origins
returns-in-Ok-clause-origins g c = λ published known. (c.in-Ok.ensures.said published known).origins

pub returns-in-Ok-clause-providers : goal.returns-in-Ok-clause-providers
returns-in-Ok-clause-providers g c = λ published known. (c.in-Ok.ensures.said published known).providers

pub returns-in-Ok-clause-routers : goal.returns-in-Ok-clause-routers
returns-in-Ok-clause-routers g c = λ published known. (c.in-Ok.ensures.said published known).routers

pub returns-in-Ok-clause-rejected : goal.returns-in-Ok-clause-rejected
returns-in-Ok-clause-rejected g c = λ published known. c.in-Ok.ensures.rejected published known

pub returns-in-Err-Rejected-clause-rejected : goal.returns-in-Err-Rejected-clause-rejected
returns-in-Err-Rejected-clause-rejected g c =
    let p = g.P.Provider in
    let known = g.S.Snapshot.holds c.args.snapshot.now in
    let issuer = c.args.issuer.now in
    let old = c.args.outcome.now.rejections.items in
    let now = c.add_point.new.outcome.rejections.items in
    let new = c.reject_point.new.rejections.items in
    let same = rw c.in-Err-Rejected.field-0-is at c.in-Err-Rejected.ensures.same in
    ok-map (AddsNote (IsPointNote issuer.cert.tbs c.in-Err-Rejected.reason) now new)
    (RejectsOf p known issuer c.args.at old new) c.reject_point.result
    (λ note published e.
    let why = rw c.in-Err-Rejected.field-0-is at c.in-Err-Rejected.ensures.rejected published e in
    point-rejected p published issuer c.args.at c.in-Err-Rejected.reason why.0
    why.1 now old new same note) c.reject_point.ensures

pub returns-in-Err-Rejected-clause-held : goal.returns-in-Err-Rejected-clause-held
returns-in-Err-Rejected-clause-held g c =
    let held = rw c.in-Err-Rejected.field-0-is at c.in-Err-Rejected.ensures.held in
    ok-always _ c.reject_point.result
    (λ published known.
    let h = held published known in
    record { origins = h.origins; providers = h.providers; routers = h.routers })

pub returns-in-Ok-clause-below : goal.returns-in-Ok-clause-below
returns-in-Ok-clause-below g c = λ published known. (c.in-Ok.ensures.said published known).below

pub returns-in-Err-Rejected-clause-below : goal.returns-in-Err-Rejected-clause-below
returns-in-Err-Rejected-clause-below g c = λ published known.
    let said = rw c.in-Err-Rejected.field-0-is at c.in-Err-Rejected.ensures.said in
    ok-always _ c.reject_point.result (said published known).below
