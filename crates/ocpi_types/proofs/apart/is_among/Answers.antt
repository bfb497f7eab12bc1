use Rattle.std.proofs.Common.{◌∙◌, bytes_eq, map, rules, tests}
use Rattle.std.proofs.lemmas.Iterator.{YieldsList-from_slice}
use Rattle.std.proofs.lemmas.Iterator.Search.{any_from_yields_List}
use Rattle.ocpi_types.proofs.Differ.{among, any_of_map}
use Rattle.ocpi_types.proofs.apart.is_among.Goals as goal

pub returns : goal.returns
returns g c =
    among c.any.result (map g.T.Identified.id_key c.args.values.now) (g.T.Identified.id_key c.args.value.now)
    (any_from_yields_List (λ x. bytes_eq (g.T.Identified.id_key c.args.value.now) (g.T.Identified.id_key x)) _ _ _ c.any.ensures.ran (YieldsList-from_slice c.args.values.now cc) (λ x b q k. search (rules, tests))
    ∙ any_of_map (bytes_eq (g.T.Identified.id_key c.args.value.now)) g.T.Identified.id_key c.args.values.now)
