mod Framing
mod Left
