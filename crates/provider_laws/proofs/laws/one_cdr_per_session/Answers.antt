use Rattle.provider_laws.proofs.held.Cdrs as laws
use Rattle.provider_laws.proofs.laws.one_cdr_per_session.Goals as goal

pub returns : goal.returns
returns c = laws.one_cdr_per_session
