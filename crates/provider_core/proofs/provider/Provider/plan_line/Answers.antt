use Rattle.provider_core.proofs.Taken.{request}
use Rattle.provider_core.proofs.provider.Provider.plan_line.Goals as goal

pub plan_request-requires : goal.plan_request-requires
plan_request-requires c = request c.args.packet.now.body c.requires c.in_default.not-CommandResponse c.in_default.not-Ack
