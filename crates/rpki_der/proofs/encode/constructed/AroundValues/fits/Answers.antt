use Rattle.rpki_der.proofs.encode.constructed.AroundValues.fits.Goals as goal

pub returns : goal.returns
returns g c = rw (← c.self.view_is) (c.fit_inside.ensures g.F.Frame.tag g.F.Frame.constructed)
