mod Room
mod Stop
mod Printed
mod Example
mod Accepted
