use Rattle.fit_device.proofs.handle.Handle.seal_with.Goals as goal

pub invariant_of-self : goal.invariant_of-self
invariant_of-self c = record {
  sound = c.args.files.sound;
  sized = c.args.files.sized;
  believed = λ _. ∣ c.requires ∣₁;
}
