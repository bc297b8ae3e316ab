-- What holds between steps. Its parts read fields of the view and of the ghost, and never the whole of either, so that a step keeps
-- by its very statement each part whose fields it leaves as they are.
use Rattle.volap_cell.specs.{Desking.Desking, Ghost.Ghost, Growing.{Growing, Queueing, Resting}, Imaging.{Covering, Imaging}, Lineage.{Leading, Lineage}, Numbering.Numbering, Owing.Owing, Placing.{Inserting, Placing}, Querying.{Pinning, Querying}, Reusing.Reusing, Setting.Setting, Stocking.{Stamping, Stocking}, Telling.Telling, Turning.Turning, View.View, Working.{Balancing, Working}}

pub record InvWith (s : Setting) (v : View) (g : Ghost) : Type 0 where
  pub numbering : Numbering s v.tags v.numbers v.roles v.settings v.counted_in v.purses v.commands v.taken v.jobs
  pub telling : Telling s v.history v.commands v.jobs v.roles v.seen g.placed
  pub owing : Owing s v.history v.promised v.images v.desks v.roles v.commands v.counted_in
  pub turning : Turning s v.ways v.purses v.boxes v.phases v.active g.gate g.shape g.home
  pub stocking : Stocking s v.stock v.made v.gates v.phases v.pins v.gone v.purses v.jobs g.owner g.shape
  pub stamping : Stamping v.stock v.blocks v.made v.trees v.gates v.phases v.pins v.purses v.reads v.jobs g.shape
  pub lineage : Lineage s v.history v.stock v.registry v.maps v.gates v.phases g.gate
  pub leading : Leading s v.maps v.images v.desks
  pub growing : Growing s v.row v.blocks v.trees v.gates v.phases v.pins g.shape
  pub queueing : Queueing s v.row v.gates v.phases v.queues
  pub resting : Resting v.history v.gates v.phases g.shape g.placed g.home
  pub placing : Placing s v.history v.commands v.ways v.queues g.gate g.shape g.placed g.home g.path
  pub inserting : Inserting s v.history v.images v.desks v.commands v.ways g.placed g.path
  pub imaging : Imaging s v.history v.row v.images g.placed
  pub covering : Covering s v.history v.row v.registry v.images g.placed g.home g.path
  pub desking : Desking s v.history v.desks v.roles v.commands v.taken
  pub pinning : Pinning s v.gates v.pins v.reads
  pub querying : Querying s v.history v.row v.blocks v.trees v.desks v.taken v.reads g.shape g.placed g.home g.counted
  pub working : Working s v.history v.blocks v.made v.trees v.phases v.active v.queues v.purses v.commands v.jobs g.gate g.shape g.placed
  pub balancing : Balancing s v.history v.commands v.jobs g.placed g.home
  pub reusing : Reusing v.roles v.phases v.gone_gates
