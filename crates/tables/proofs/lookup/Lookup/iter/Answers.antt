use Rattle.tables.proofs.Looked.{listed_up}
use Rattle.tables.proofs.lookup.Lookup.iter.Goals as goal

pub returns : goal.returns
returns g c = rw (← c.self.view_is, c.iter.ensures.rest) (listed_up g.met.K.Ord.total g.met.K.TableKey.exact g.K.PartialEq.eq g.met.K.Eq.laws g.met.K.Ord.matches_eq c.self.inside.slots.entries c.iter.ensures.unique)
