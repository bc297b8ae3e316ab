-- A job may go to another thread.
use denote.Param.Send.{IsSend, sendable}
use denote.Param.SendFields.{declared_send}
use Rattle.hall_hands.specs.actor_run.proofs.Sent.{player_send}
use Rattle.threaded_run.specs.contracts.threads.Job as job

pub job_send : IsSend job.the_row
job_send = declared_send job.the_type (search (sendable, player_send) depth 30, (search sendable, (search sendable, tt)))
