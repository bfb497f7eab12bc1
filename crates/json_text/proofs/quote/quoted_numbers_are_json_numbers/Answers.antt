use Rattle.json_text.proofs.JsonNumbers.{json_from_places, places_from_json}
use Rattle.json_text.proofs.quote.quoted_numbers_are_json_numbers.Goals as goal

pub returns : goal.returns
returns c = λ x xs begins. (json_from_places x xs begins, places_from_json x xs)
