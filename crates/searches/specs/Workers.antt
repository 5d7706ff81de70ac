-- The store with other slots, as a call on searches leaves it.
pub use Rattle.slots.specs.Workers.{with_slots}
