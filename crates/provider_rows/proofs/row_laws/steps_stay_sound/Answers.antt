use Rattle.provider_rows.proofs.KeepingSound.{follow_sound}
use Rattle.provider_rows.proofs.row_laws.steps_stay_sound.Goals as goal

pub returns : goal.returns
returns c = follow_sound
