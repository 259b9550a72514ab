-- What a plan is run on.
pub use Rattle.plan_nodes.specs.Passing.{inputs_of}
