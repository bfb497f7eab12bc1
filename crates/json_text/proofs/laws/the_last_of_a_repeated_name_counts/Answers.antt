use Rattle.json_text.proofs.Repeats.{last_counts}
use Rattle.json_text.proofs.laws.the_last_of_a_repeated_name_counts.Goals as goal

pub returns : goal.returns
returns c = last_counts
