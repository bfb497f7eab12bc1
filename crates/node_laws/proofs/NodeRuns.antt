-- The laws of a node of either role: a run is one step.
use Rattle.std.proofs.Common.{[], ◌∷◌, sym, subst}
use Rattle.node_laws.specs.Nodes.{NodeStep, no_exchange, exchanged}
use Rattle.node_laws.specs.Laws.{RunsAreSteps, Numbered, SentToPeers, SentRepliesAreKept, RepliesStay, RepliesAnswer, RequestsAgree, RequestsStand, RequestsWereSent, StayGiven}
use Rattle.node_laws.proofs.Joining.{join, idle_step, given_after}

pub runs_are_steps : RunsAreSteps
runs_are_steps s t [] run = subst (NodeStep s no_exchange) (sym run) (idle_step s [])
runs_are_steps s t (e ∷ es) (u, first, rest) = join s u t e (exchanged es) first (runs_are_steps u t es rest)

pub numbered : Numbered
numbered s t es run = let step = runs_are_steps s t es run in (step.counts.serial, step.counts.each)

pub sent_replies_are_kept : SentRepliesAreKept
sent_replies_are_kept s t es run = (runs_are_steps s t es run).replies.kept

pub replies_stay : RepliesStay
replies_stay s t es run = (runs_are_steps s t es run).replies.stay

pub replies_answer : RepliesAnswer
replies_answer s t es run = (runs_are_steps s t es run).replies.answer

pub requests_agree : RequestsAgree
requests_agree s t es run given = ((runs_are_steps s t es run).asks given).one

pub requests_stand : RequestsStand
requests_stand s t es run given = ((runs_are_steps s t es run).asks given).stands

pub requests_were_sent : RequestsWereSent
requests_were_sent s t es run given = ((runs_are_steps s t es run).asks given).made

pub stay_given : StayGiven
stay_given s t es run given = given_after s t (exchanged es) (runs_are_steps s t es run) given

pub sent_to_peers : SentToPeers
sent_to_peers s t es run given = ((runs_are_steps s t es run).asks given).to_peer
