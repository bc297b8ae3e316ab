use Rattle.hall_admin.proofs.driving.drive.Goals as goal

pub go_on-requires : goal.go_on-requires
go_on-requires g c = (let o = c.requires.opened in record { opened = (o.0, o.1, o.2, c.loop.invariant o.0 o.1 o.2 o.3) })

pub loop-init : goal.loop-init
loop-init g c of call start is_open = is_open

pub loop-preserved : goal.loop-preserved
loop-preserved g c of call start is_open = c.in-None-go_on.ensures.goes of call start (c.loop.invariant of call start is_open)

pub returns-in-Some-go_on : goal.returns-in-Some-go_on
returns-in-Some-go_on g c = record { done = λ of call start is_open. c.in-Some-go_on.ensures.goes of call start (c.loop.invariant of call start is_open) }
