use Rattle.std.proofs.Common.{refl}
use Rattle.provider_core.proofs.Taken.{taken}
use Rattle.provider_core.proofs.packets.bodies.is_taken.Goals as goal

pub returns-in-CommandResult : goal.returns-in-CommandResult
returns-in-CommandResult c = (λ _. taken c.args.body.now c.in-CommandResult.is, λ _. refl)

pub returns-in-CommandResult-2 : goal.returns-in-CommandResult-2
returns-in-CommandResult-2 c = (λ _. taken c.args.body.now c.in-CommandResult.is, λ _. refl)

pub returns-in-CommandResult-3 : goal.returns-in-CommandResult-3
returns-in-CommandResult-3 c = (λ _. taken c.args.body.now c.in-CommandResult.is, λ _. refl)

pub returns-in-CommandResult-4 : goal.returns-in-CommandResult-4
returns-in-CommandResult-4 c = (λ _. taken c.args.body.now c.in-CommandResult.is, λ _. refl)
