use Rattle.std.proofs.Common.{refl}
use Rattle.rpki_validation.specs.Adding.{found}
use Rattle.rpki_validation.proofs.HereLaws.{cert-file, ends-otherwise, ends-so, origins-file, other-file}
use Rattle.rpki_validation.proofs.HereLaws.{providers-file}
use Rattle.rpki_validation.proofs.AddingLaws.{sisters-none}
use Rattle.rpki_validation.proofs.HereLaws.{cert-settled, origins-settled, other-settled, providers-settled}
use Rattle.rpki_validation.proofs.HereLaws.{where-always, where-both, where-memory}
use Rattle.rpki_validation.specs.Holding.{values}
use Rattle.rpki_validation.proofs.HeldLaws.{held-nothing}
use Rattle.rpki_validation.proofs.NotingLaws.{adds-map, adds-nothing}
use Rattle.rpki_validation.proofs.visit.add_file.Goals as goal

pub returns-then-ends_with-clause-said : goal.returns-then-ends_with-clause-said
returns-then-ends_with-clause-said g c =
    let p = g.P.Provider in
    let roa = rw c.file-name.ensures.name at (ends-so _ _ c.ends_with.ensures.value c.if-ends_with.true) in
    where-memory _ _ c.add_origins.result
    (origins-file p c.args.list.now c.args.file.now c.args.octets roa
    (found c.args.below.now c.args.outcome.now) (values c.add_origins.new.origins.items)) c.add_origins.ensures.said

pub returns-then-ends_with-2-clause-said : goal.returns-then-ends_with-2-clause-said
returns-then-ends_with-2-clause-said g c =
    let p = g.P.Provider in
    let none = rw c.file-name.ensures.name at (ends-otherwise _ _ c.ends_with.ensures.value c.if-ends_with.false) in
    let asa = rw c.file-name.ensures.name at (ends-so _ _ c.ends_with-2.ensures.value c.if-ends_with-2.true) in
    where-memory _ _ c.add_providers.result
    (providers-file p c.args.list.now c.args.file.now c.args.octets none asa
    (found c.args.below.now c.args.outcome.now) (values c.add_providers.new.providers.items))
    c.add_providers.ensures.said

pub returns-then-ends_with-3-clause-said : goal.returns-then-ends_with-3-clause-said
returns-then-ends_with-3-clause-said g c =
    let p = g.P.Provider in
    let none = rw c.file-name.ensures.name at (ends-otherwise _ _ c.ends_with.ensures.value c.if-ends_with.false) in
    let other = rw c.file-name.ensures.name at
    (ends-otherwise _ _ c.ends_with-2.ensures.value c.if-ends_with-2.false) in
    let cer = rw c.file-name.ensures.name at (ends-so _ _ c.ends_with-3.ensures.value c.if-ends_with-3.true) in
    where-both _ _ _ c.add_cert.result
    (λ routers below. cert-file p c.args.list.now c.args.file.now
    c.args.octets none other cer (found c.args.below.now c.args.outcome.now) _ refl refl routers below)
    c.add_cert.ensures.routers c.add_cert.ensures.below

pub returns-clause-said : goal.returns-clause-said
returns-clause-said g c =
    let p = g.P.Provider in
    let none = rw c.file-name.ensures.name at (ends-otherwise _ _ c.ends_with.ensures.value c.if-ends_with.false) in
    let other = rw c.file-name.ensures.name at
    (ends-otherwise _ _ c.ends_with-2.ensures.value c.if-ends_with-2.false) in
    let never = rw c.file-name.ensures.name at
    (ends-otherwise _ _ c.ends_with-3.ensures.value c.if-ends_with-3.false) in
    other-file p c.args.list.now c.args.file.now c.args.octets none other never
    (found c.args.below.now c.args.outcome.now)

pub returns-then-ends_with-clause-sisters : goal.returns-then-ends_with-clause-sisters
returns-then-ends_with-clause-sisters g c =
    where-always _ c.add_origins.result
    (sisters-none c.args.list.now.issuer c.args.list.now.at c.args.below.now.items)

pub returns-then-ends_with-2-clause-sisters : goal.returns-then-ends_with-2-clause-sisters
returns-then-ends_with-2-clause-sisters g c =
    where-always _ c.add_providers.result
    (sisters-none c.args.list.now.issuer c.args.list.now.at c.args.below.now.items)

pub returns-then-ends_with-3-clause-sisters : goal.returns-then-ends_with-3-clause-sisters
returns-then-ends_with-3-clause-sisters g c = c.add_cert.ensures.sisters

pub returns-clause-sisters : goal.returns-clause-sisters
returns-clause-sisters g c = sisters-none c.args.list.now.issuer c.args.list.now.at c.args.below.now.items

-- ---- the authorities that are added

pub returns-then-ends_with-clause-children : goal.returns-then-ends_with-clause-children
returns-then-ends_with-clause-children g c =
    where-always _ c.add_origins.result (adds-nothing _ c.args.below.now.items)

pub returns-then-ends_with-2-clause-children : goal.returns-then-ends_with-2-clause-children
returns-then-ends_with-2-clause-children g c =
    where-always _ c.add_providers.result (adds-nothing _ c.args.below.now.items)

pub returns-then-ends_with-3-clause-children : goal.returns-then-ends_with-3-clause-children
returns-then-ends_with-3-clause-children g c =
    let cer = rw c.file-name.ensures.name at (ends-so _ _ c.ends_with-3.ensures.value c.if-ends_with-3.true) in
    where-memory _ _ c.add_cert.result (adds-map _ _ c.args.below.now.items _ (λ a h. (cer, h)))
    c.add_cert.ensures.children

pub returns-clause-children : goal.returns-clause-children
returns-clause-children g c = adds-nothing _ c.args.below.now.items

-- ---- payloads in their periods

pub returns-then-ends_with-clause-held : goal.returns-then-ends_with-clause-held
returns-then-ends_with-clause-held g c =
    let roa = rw c.file-name.ensures.name at (ends-so _ _ c.ends_with.ensures.value c.if-ends_with.true) in
    let old = c.args.outcome.now in
    where-memory _ _ c.add_origins.result
    (λ h. record {
      origins = adds-map _ _ old.origins.items _ (λ v k. (roa, k)) h;
      providers = adds-nothing _ old.providers.items;
      routers = adds-nothing _ old.routers.items;
    }) c.add_origins.ensures.held

pub returns-then-ends_with-2-clause-held : goal.returns-then-ends_with-2-clause-held
returns-then-ends_with-2-clause-held g c =
    let asa = rw c.file-name.ensures.name at (ends-so _ _ c.ends_with-2.ensures.value c.if-ends_with-2.true) in
    let old = c.args.outcome.now in
    where-memory _ _ c.add_providers.result
    (λ h. record {
      origins = adds-nothing _ old.origins.items;
      providers = adds-map _ _ old.providers.items _ (λ v k. (asa, k)) h;
      routers = adds-nothing _ old.routers.items;
    }) c.add_providers.ensures.held

pub returns-then-ends_with-3-clause-held : goal.returns-then-ends_with-3-clause-held
returns-then-ends_with-3-clause-held g c =
    let cer = rw c.file-name.ensures.name at (ends-so _ _ c.ends_with-3.ensures.value c.if-ends_with-3.true) in
    let old = c.args.outcome.now in
    where-memory _ _ c.add_cert.result
    (λ h. record {
      origins = adds-nothing _ old.origins.items;
      providers = adds-nothing _ old.providers.items;
      routers = adds-map _ _ old.routers.items _ (λ v k. (cer, k)) h;
    }) c.add_cert.ensures.held

pub returns-clause-held : goal.returns-clause-held
returns-clause-held g c = held-nothing c.args.outcome.now

-- ---- whether it counts

pub returns-then-ends_with-clause-why : goal.returns-then-ends_with-clause-why
returns-then-ends_with-clause-why g c =
    let p = g.P.Provider in
    let roa = rw c.file-name.ensures.name at (ends-so _ _ c.ends_with.ensures.value c.if-ends_with.true) in
    origins-settled p c.args.list.now c.args.file.now c.args.octets
    c.add_origins.result roa c.add_origins.ensures.why

pub returns-then-ends_with-2-clause-why : goal.returns-then-ends_with-2-clause-why
returns-then-ends_with-2-clause-why g c =
    let p = g.P.Provider in
    let asa = rw c.file-name.ensures.name at (ends-so _ _ c.ends_with-2.ensures.value c.if-ends_with-2.true) in
    providers-settled p c.args.list.now c.args.file.now c.args.octets
    c.add_providers.result asa c.add_providers.ensures.why

pub returns-then-ends_with-3-clause-why : goal.returns-then-ends_with-3-clause-why
returns-then-ends_with-3-clause-why g c =
    let p = g.P.Provider in
    let cer = rw c.file-name.ensures.name at (ends-so _ _ c.ends_with-3.ensures.value c.if-ends_with-3.true) in
    cert-settled p c.args.list.now c.args.file.now c.args.octets
    c.add_cert.result cer c.add_cert.ensures.why

pub returns-clause-why : goal.returns-clause-why
returns-clause-why g c =
    let p = g.P.Provider in
    let none = rw c.file-name.ensures.name at (ends-otherwise _ _ c.ends_with.ensures.value c.if-ends_with.false) in
    let other = rw c.file-name.ensures.name at
    (ends-otherwise _ _ c.ends_with-2.ensures.value c.if-ends_with-2.false) in
    let never = rw c.file-name.ensures.name at
    (ends-otherwise _ _ c.ends_with-3.ensures.value c.if-ends_with-3.false) in
    other-settled p c.args.list.now c.args.file.now c.args.octets none other
    never

-- ---- nothing is noted

pub returns-then-ends_with-clause-rejections : goal.returns-then-ends_with-clause-rejections
returns-then-ends_with-clause-rejections g c = where-always _ c.add_origins.result refl

pub returns-then-ends_with-2-clause-rejections : goal.returns-then-ends_with-2-clause-rejections
returns-then-ends_with-2-clause-rejections g c = where-always _ c.add_providers.result refl

pub returns-then-ends_with-3-clause-rejections : goal.returns-then-ends_with-3-clause-rejections
returns-then-ends_with-3-clause-rejections g c = where-always _ c.add_cert.result refl
